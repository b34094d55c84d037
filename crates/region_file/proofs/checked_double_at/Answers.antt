-- `region_file::checked_double_at` meets its contract. Assumes nothing.
use mathlib.Core.Path.{◌∙◌}
use borrow.Author.Tests.{lt-ltb, le-ltb}
use Rattle.region_file.proofs.Numbers.{read_8}
use Rattle.region_file.proofs.Reading.{number_is_nan, number_is_no_nan}
use Rattle.region_file.proofs.checked_double_at.Goals as goal

pub returns-then-bits-gt9218868437227405312 : goal.returns-then-bits-gt9218868437227405312
returns-then-bits-gt9218868437227405312 c =
    number_is_nan c.args.s.now c.args.at _ c.args.index (c.from_le_bytes-bits.ensures ∙ read_8 _ _ _ c.requires c.bytes_at.ensures) (lt-ltb _ _ c.if-bits-gt9218868437227405312.true)

pub returns : goal.returns
returns c =
    number_is_no_nan c.args.s.now c.args.at _ c.args.index (c.from_le_bytes-bits.ensures ∙ read_8 _ _ _ c.requires c.bytes_at.ensures) (le-ltb _ _ c.if-bits-gt9218868437227405312.false) _ c.from_bits.ensures
