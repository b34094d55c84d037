-- Corners of a made region, and the normal of an edge between two: finite, doubles, and not turned south.
use mathlib.Core.Path.{◌≡◌, refl}
use mathlib.Core.Bool.{Bool, true, false, cond}
use lib.Dec.{T}
use lib.Ieee.{Float, binary64, fits, neg, lt}
use lib.Ieee.Fits.{sub-fits, neg-fits}
use Rattle.float.specs.Doubles.{◌⊖◌, ◌⊗◌, nought, is_finite}
use Rattle.float.proofs.Signs.{not_below}
use Rattle.float.proofs.Small.{Within, within_finite, within_neg, within_two, product_within, difference_within}
use Rattle.coo3d.specs.declared.Coo3D.{Coo3D}
use Rattle.coo3d.specs.declared.Vect3.{Vect3}
use Rattle.coo3d.specs.Points.{of_doubles}
use Rattle.coo3d.specs.Vectors.{vect_of_point, cross_of, opposite_of}
use Rattle.domain.proofs.Handed.{Settled}
use Rattle.domain.proofs.Inside.{double_lon, settled_finite, settled_placed}
use Rattle.region.specs.Edges.{northward, normal_of}

pub record Corner (c : Coo3D) : Type 0 where
  pub x : Within 2 c.x
  pub y : Within 2 c.y
  pub z : Within 2 c.z
  pub lon : is_finite c.lon ≡ true
  pub held : T (fits binary64 c.lon)

pub corner_of : (c : Coo3D) → Settled c → of_doubles c ≡ true → Corner c
corner_of c s d =
    let p = settled_placed c s in
    record { x = within_two c.x p.x; y = within_two c.y p.y; z = within_two c.z p.z; lon = (settled_finite c s).lon; held = double_lon c d }

pub record Northern (n : Vect3) : Type 0 where
  pub x : is_finite n.x ≡ true
  pub y : is_finite n.y ≡ true
  pub held : T (fits binary64 n.z)
  pub north : lt n.z nought ≡ false

minor : (a b c d : Float) → Within 2 a → Within 2 b → Within 2 c → Within 2 d → Within 8 (a ⊗ b ⊖ c ⊗ d)
minor a b c d p q r s = difference_within (a ⊗ b) (c ⊗ d) (product_within a b p q) (product_within c d r s)

turned_north : (v : Vect3) → Within 8 v.x → Within 8 v.y → T (fits binary64 v.z) → Northern (northward v)
unfolding northward opposite_of
turned_north v p q h = go (lt v.z nought) refl
  where
    go : (t : Bool) → lt v.z nought ≡ t → Northern (cond t (opposite_of v) v)
    go true e = record { x = within_finite 8 (neg v.x) (within_neg 8 v.x p); y = within_finite 8 (neg v.y) (within_neg 8 v.y q); held = neg-fits binary64 v.z h; north = not_below v.z e }
    go false e = record { x = within_finite 8 v.x p; y = within_finite 8 v.y q; held = h; north = e }

pub northern : (a b : Coo3D) → Corner a → Corner b → Northern (normal_of a b)
unfolding normal_of cross_of
northern a b p q =
    turned_north (cross_of (vect_of_point a) (vect_of_point b)) (minor a.y b.z a.z b.y p.y q.z p.z q.y) (minor a.z b.x a.x b.z p.z q.x p.x q.z) (sub-fits binary64 (a.x ⊗ b.y) (a.y ⊗ b.x))
