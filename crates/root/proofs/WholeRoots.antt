-- What specs/WholeRoot.antt says of the whole root. Assumes nothing.
use Rattle.std.proofs.Common.{◌≡◌, ℕ, ◌+◌, ◌*◌, ◌^◌, ◌<◌, ◌≤◌, ap, ap₂, arith}
use Rattle.root.specs.declared.WholeRoot.{WholeRoot}
use Rattle.root.specs.Whole.{IsRoot}
use Rattle.root.specs.WholeRoot.{whole_root_of, WholeRooted}
use Rattle.root.proofs.Grow.{next_square, double_square, at_most, one_root}
use Rattle.root.proofs.Laws.{every_width}

is_root : (n : ℕ) → n < 2 ^ 64 → IsRoot n (whole_root_of n).root (whole_root_of n).remainder
unfolding whole_root_of
is_root n h = every_width 32 n (omega arith)

pub is_whole_root : {n : ℕ} (w : WholeRoot) → n < 2 ^ 64 → IsRoot n w.root w.remainder → w ≡ whole_root_of n
is_whole_root {n} w l h = let k = is_root n l in same (whole_root_of n) k (one_root h k)
  where
    both : ℕ → ℕ → WholeRoot
    both s r = record { root = s; remainder = r }

    same : (v : WholeRoot) → IsRoot n v.root v.remainder → w.root ≡ v.root → w ≡ v
    same v k e = ap₂ both e (omega (arith, h.square, k.square, ap (λ (x : ℕ). x * x) e))

pub whole_rooted : (n : ℕ) → n < 2 ^ 64 → WholeRooted n
whole_rooted n l =
    let h = is_root n l in
    record {
      square = h.square;
      small = h.small;
      only = λ w p q. is_whole_root w l (record { square = p; small = q });
      largest = λ t p. at_most h p;
      half_above = λ p. above_half h p;
      half_below = λ p. below_half h p;
    }
  where
    above_half : {s r : ℕ} → IsRoot n s r → r ≤ s → 4 * n < (2 * s + 1) * (2 * s + 1)
    above_half {s} {r} h p = omega (arith, h.square, next_square (2 * s), double_square s)

    below_half : {s r : ℕ} → IsRoot n s r → s < r → (2 * s + 1) * (2 * s + 1) < 4 * n
    below_half {s} {r} h p = omega (arith, h.square, next_square (2 * s), double_square s)
