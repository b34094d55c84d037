-- `float::to_bits` meets its contract. Assumes nothing.
use Rattle.float.proofs.to_bits.Goals as goal

pub returns : goal.returns
returns c = c.f64_to_bits_with_nan.ensures
