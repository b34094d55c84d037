-- `root::finite` meets its contract. Assumes nothing.
use Rattle.std.proofs.Common.{◌≡◌, ℕ, ◌+◌, ◌*◌, ◌/◌, ◌%◌, ◌^◌, ◌<◌, ◌≤◌, sym, subst, le_trans, lt_of_lt_of_le, le-mul_of_pos_right, arith, pow_pos, pow_mono, shl_lt, shl_exact}
use Rattle.root.specs.Whole.{near_root}
use Rattle.root.proofs.Laws.{near_le}
use Rattle.root.proofs.finite.Goals as goal

-- the shift loses no digit
shifted : (m f : ℕ) → m < 2 ^ 53 → m * 2 ^ (f % 2) % 2 ^ 64 ≡ m * 2 ^ (f % 2)
shifted m f h = shl_exact 53 (f % 2) 64 h (omega arith)

small : (m f : ℕ) → m < 2 ^ 53 → m * 2 ^ (f % 2) % 2 ^ 64 < 2 ^ 54
small m f h = subst (λ (x : ℕ). x < 2 ^ 54) (sym (shifted m f h)) (lt_of_lt_of_le (shl_lt 53 (f % 2) h) (pow_mono {i = 53 + f % 2} {j = 54} (omega arith)))

large : (m f : ℕ) → 2 ^ 52 ≤ m → m < 2 ^ 53 → 2 ^ 52 ≤ m * 2 ^ (f % 2) % 2 ^ 64
large m f g h = subst (λ (x : ℕ). 2 ^ 52 ≤ x) (sym (shifted m f h)) (le_trans g (le-mul_of_pos_right m (pow_pos (f % 2))))

pub nearest-requires : goal.nearest-requires
nearest-requires c = (large c.args.m c.args.f c.requires.0 c.requires.1, small c.args.m c.args.f c.requires.1)

room : (f r A : ℕ) → f ≤ 2097 → r ≡ near_root A → (f / 2 + 485) * 2 ^ 52 + r < 2 ^ 64
room f r A h e = omega (arith, near_le A)

pub overflow_add-result-2 : goal.overflow_add-result-2
overflow_add-result-2 c = record { fits = room c.args.f c.nearest.result _ c.requires.2 c.nearest.ensures }
