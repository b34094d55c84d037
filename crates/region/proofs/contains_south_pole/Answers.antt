-- `region::contains_south_pole` meets its contract. Assumes nothing.
use Rattle.std.proofs.Common.{rules}
use mathlib.Core.Path.{sym}
use Rattle.domain.proofs.Counts.{count_in, count_refused}
use Rattle.region.specs.Region.{flag_of}
use Rattle.region.proofs.Rules.{rule_again}
use Rattle.region.proofs.contains_south_pole.Goals as goal

pub returns-in_err-check_count : goal.returns-in_err-check_count
unfolding flag_of
returns-in_err-check_count c = search (rules, count_refused)

pub returns-in_err-rule : goal.returns-in_err-rule
unfolding flag_of
returns-in_err-rule c = search (rules, count_in)

pub flag_by_rule-requires : goal.flag_by_rule-requires
flag_by_rule-requires c =
    let few = c.check_count.ensures.few in
    (search rules, search rules, rule_again _ _ _ (sym c.in_ok-rule.ensures) 0)

pub returns : goal.returns
unfolding flag_of
returns c = search (rules, count_in)
