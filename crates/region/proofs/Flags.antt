-- What `flag_of` is where the count is 1 to 64.
use Prim.Native.Nat.{ℕ, ◌≤◌}
use mathlib.Core.Path.{◌≡◌, sym}
use mathlib.Core.Bool.{Bool, true, false}
use mathlib.Core.List.{List}
use Rattle.domain.proofs.Counts.{count_few, count_only}
use Rattle.refusal.specs.Answer.{answered, refused}
use Rattle.region.specs.declared.ContainsSouthPoleMethod.{ContainsSouthPoleMethod}
use Rattle.region.specs.View.{View}
use Rattle.region.specs.Poles.{rule_flag, fixed_rule}
use Rattle.region.specs.Region.{rule_at, flag_of}

module _ (v : View) (m : ContainsSouthPoleMethod) (some : v.count ≡ 0 → ⊥) (few : v.count ≤ 64) where
  pub flag_checked : (k : ContainsSouthPoleMethod) → answered k ≡ rule_at v.count m → answered (rule_flag k v) ≡ flag_of v m
  unfolding flag_of
  flag_checked k e = rw (count_few v.count _ some few, sym e)

  pub flag_refused : (n : ℕ) (vs : List ℕ) → refused n vs ≡ rule_at v.count m → refused n vs ≡ flag_of v m
  unfolding flag_of
  flag_refused n vs e = rw (count_few v.count _ some few, sym e)

pub flag_fixed : (v : View) (b : Bool) → (v.count ≡ 0 → ⊥) → v.count ≤ 64 → flag_of v (fixed_rule b) ≡ answered b
unfolding flag_of rule_at rule_flag
flag_fixed v true some few = count_few v.count _ some few
flag_fixed v false some few = count_few v.count _ some few

-- a fixed rule is refused by the count alone, and then every rule is
pub flag_only : (v : View) (b : Bool) (m : ContainsSouthPoleMethod) (k : ℕ) (vs : List ℕ) → flag_of v (fixed_rule b) ≡ refused k vs → flag_of v m ≡ refused k vs
unfolding flag_of rule_at rule_flag
flag_only v true m k vs e = count_only v.count true _ k vs e
flag_only v false m k vs e = count_only v.count false _ k vs e
