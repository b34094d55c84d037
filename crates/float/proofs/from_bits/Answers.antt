-- `float::from_bits` meets its contract. Assumes nothing.
use Rattle.float.proofs.from_bits.Goals as goal

pub returns : goal.returns
returns c = c.f64_from_bits_with_nan.ensures
