-- What `sqrt` asks of the bit patterns: which are no NaN's, and how far a subnormal's digits are shifted up. Assumes nothing.
use Rattle.std.proofs.Common.{◌≡◌, ℕ, suc, ◌+◌, ◌-◌, ◌*◌, ◌%◌, ◌^◌, ◌<◌, ◌≤◌, Bool, true, not, T, ltb, sym, refl, ap, ◌∙◌, subst, mul-le-mul_right, mul_assoc, arith, ltb→lt, pow-add, shl_lt}
use lib.Dec.{not_T}
use lib.Count.{count_leading_zeros, leading_top}
use lib.Ieee.{Float, nan, binary64, is_nan, nan_bits}
use lib.Ieee.Bits.{nan_bits_above}
use Rattle.float.proofs.Nan.{is_nan_lem}
use Rattle.root.specs.Root.{sqrt_of}
use Rattle.root.proofs.Widths.{top_below}

at_nan : sqrt_of nan ≡ nan
unfolding sqrt_of
at_nan = refl

pub of_nan : (a : Float) → is_nan a ≡ true → a ≡ sqrt_of a
of_nan a h = let e : a ≡ nan = is_nan_lem a h in e ∙ sym (ap sqrt_of e ∙ at_nan)

pub no_nan_bits : (r : ℕ) → r < 2047 * 2 ^ 52 → T (not (nan_bits binary64 r))
no_nan_bits r h =
    subst (λ (b : Bool). T (not b)) (sym (nan_bits_above binary64 r))
    (not_T (ltb (2047 * 2 ^ 52) (r % 2 ^ 63)) (λ (u : T (ltb (2047 * 2 ^ 52) (r % 2 ^ 63))). no r h (ltb→lt (2047 * 2 ^ 52) (r % 2 ^ 63) u)))
  where
    no : (r : ℕ) → r < 2047 * 2 ^ 52 → 2047 * 2 ^ 52 < r % 2 ^ 63 → ⊥
    no r h k = omega arith

-- a subnormal's digits b, shifted up by z - 11, for its z leading zeros
pub record Shifted (b z : ℕ) : Type 0 where
  pub low : 11 ≤ z
  pub high : z ≤ 63
  pub long : 2 ^ 52 ≤ b * 2 ^ (z - 11)
  pub short : b * 2 ^ (z - 11) < 2 ^ 53
  pub units : b * 2 ^ 52 ≡ b * 2 ^ (z - 11) * 2 ^ (63 - z)

shifts : (b z j : ℕ) → z + suc j ≡ 64 → 2 ^ j ≤ b → b < 2 ^ suc j → j < 52 → Shifted b z
shifts b z j e g l k = record {
  low = omega arith;
  high = omega arith;
  long = subst (λ (x : ℕ). x ≤ b * 2 ^ (z - 11)) (sym (pow-add 2 j (z - 11)) ∙ ap (λ (x : ℕ). 2 ^ x) at_52) (mul-le-mul_right (2 ^ (z - 11)) g);
  short = subst (λ (x : ℕ). b * 2 ^ (z - 11) < 2 ^ x) at_53 (shl_lt (suc j) (z - 11) l);
  units = sym (mul_assoc b (2 ^ (z - 11)) (2 ^ (63 - z)) ∙ ap (λ (x : ℕ). b * x) (sym (pow-add 2 (z - 11) (63 - z)) ∙ ap (λ (x : ℕ). 2 ^ x) at_both));
}
  where
    at_52 : j + (z - 11) ≡ 52
    at_52 = omega arith

    at_53 : suc j + (z - 11) ≡ 53
    at_53 = omega arith

    at_both : z - 11 + (63 - z) ≡ 52
    at_both = omega arith

pub shifted : (b : ℕ) → 0 < b → b < 2 ^ 52 → Shifted b (count_leading_zeros 64 b)
shifted b p l =
    let t = leading_top 64 b p (under b l) in
    shifts b (count_leading_zeros 64 b) t.0 t.1 t.2 t.3 (top_below b t.0 52 t.2 l)
  where
    under : (b : ℕ) → b < 2 ^ 52 → b < 2 ^ 64
    under b l = omega arith
