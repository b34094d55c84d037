-- `root::checked` meets its contract, by the laws of `proofs/Remainder.antt`. Assumes nothing.
use Rattle.std.proofs.Common.{ℕ, ◌+◌, ◌/◌, ◌%◌, ◌^◌, arith}
use Rattle.root.proofs.Remainder.{less, Tested, at_once, one_more}
use Rattle.root.proofs.checked.Goals as goal
use Rattle.root.proofs.checked.Goals.{After-product-6}

abbrev first : After-product-6 → ℕ
first c = (c.product-p.result + c.product.result / 2 ^ 15) % 2 ^ 64 / 2 ^ 32

abbrev second : After-product-6 → ℕ
second c = less c.product-4.result 0x40_2000_0000 / 2 ^ 39

tested : (c : After-product-6) → Tested c.args.n (first c) (second c) c.product-3.result c.product-5.result c.product-6.result
tested c =
    record {
      long = c.requires.0;
      short = c.requires.1;
      first = omega arith;
      second = omega arith;
      squared = c.product-3.ensures;
      mixed = c.product-5.ensures;
      left = c.product-6.ensures;
      few = c.if-t-ge17179869184.false;
      fewer = c.if-v-ge17179869184.false;
    }

pub returns-then-r-s : goal.returns-then-r-s
returns-then-r-s c = at_once (tested (goal.at.returns-then-r-s c).After-product-6) c.if-r-s.true

pub returns-then-r-s-2 : goal.returns-then-r-s-2
returns-then-r-s-2 c = one_more (tested (goal.at.returns-then-r-s-2 c).After-product-6) c.if-r-s.false c.if-r-s-2.true
