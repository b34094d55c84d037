-- `region_file::set_flag` meets its contract. Assumes nothing.
use Prim.Native.Nat.{ℕ, ◌+◌, ◌-◌, ◌≤◌}
use native.Mathlib.Omega.{arith}
use mathlib.Core.Path.{◌≡◌, sym, ap, ◌∙◌}
use mathlib.Core.Bool.{Bool, cond}
use mathlib.Core.List.{List}
use mir.Val.{bool_byte}
use lib.ListN.{length}
use lib.Seq.{sets, sets-eq}
use Rattle.refusal.specs.Answer.{answered, refused, verdict}
use Rattle.region_file.specs.declared.Trailer.{Trailer}
use Rattle.region_file.specs.Bytes.{bytes_of}
use Rattle.region_file.specs.File.{flag_bytes, trailer_of, with_flag_field}
use Rattle.region.proofs.Seam.{as_number}
use Rattle.region_file.proofs.Numbers.{length_bytes}
use Rattle.region_file.proofs.Trailers.{accepted}
use Rattle.region_file.proofs.set_flag.Goals as goal

-- a trailer that is taken
module _ (s : List ℕ) (t : Trailer) (told : answered t ≡ trailer_of s) where
  long : 16 ≤ length s
  long = (accepted s t (sym told)).long

  field_set : (flag : Bool) → sets s (length s - 12) (bytes_of 4 (bool_byte flag)) ≡ with_flag_field s flag
  unfolding with_flag_field
  field_set flag =
      let h = long in
      let w : length (flag_bytes flag) ≡ 4 = length_bytes 4 (cond flag 1 0) in
      let room : length s - 12 + length (flag_bytes flag) ≤ length s = omega (arith, h, w) in
      let e : length s - 12 + length (flag_bytes flag) ≡ length s - 8 = omega (arith, h, w) in
      ap (λ (n : ℕ). sets s (length s - 12) (bytes_of 4 n)) (as_number flag) ∙ sets-eq (flag_bytes flag) s (length s - 12) room ∙ rw (e, sym told)

-- a trailer that is refused
field_left : (s : List ℕ) (k : ℕ) (vs : List ℕ) → refused k vs ≡ trailer_of s → (flag : Bool) → s ≡ with_flag_field s flag
unfolding with_flag_field
field_left s k vs told flag = rw (sym told)

pub overflow_sub-at : goal.overflow_sub-at
overflow_sub-at c = let h = long _ _ c.in-Ok.ensures in omega (arith, h)

pub put_number-requires : goal.put_number-requires
put_number-requires c = let h = long _ _ c.in-Ok.ensures in (omega arith, omega (arith, h))

pub returns-in-Err : goal.returns-in-Err
returns-in-Err c = record { answer = ap verdict c.in-Err.ensures; file_after = field_left _ _ _ c.in-Err.ensures _ }

pub returns-in-Ok : goal.returns-in-Ok
returns-in-Ok c = record { answer = ap verdict c.in-Ok.ensures; file_after = c.put_number.ensures ∙ field_set _ _ c.in-Ok.ensures _ }
