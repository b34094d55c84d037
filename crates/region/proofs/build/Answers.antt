-- `region::build` meets its contract. Assumes nothing.
use mathlib.Core.Path.{refl, sym}
use mathlib.Core.Bool.{false}
use Rattle.region.proofs.Rules.{rule_again}
use Rattle.region.proofs.Answered.{builds_done, builds_same}
use Rattle.region.proofs.Building.{built_view, not_ruled, in_range, rule_refused, rule_taken}
use Rattle.region.proofs.build.Goals as goal

pub returns-in_default : goal.returns-in_default
returns-in_default c = not_ruled _ _ false _ _ _ c.build_flagged-built.ensures c.in_default.is

pub returns-in-Err : goal.returns-in-Err
returns-in-Err c =
    let built = built_view _ _ c.build_flagged-built.ensures c.in-Ok.is in
    rule_refused _ _ _ _ built _ _ _ c.refused.ensures c.in-Err.ensures

pub flag_by_rule-flag-requires : goal.flag_by_rule-flag-requires
flag_by_rule-flag-requires c =
    let built = built_view _ _ c.build_flagged-built.ensures c.in-Ok.is in
    let told = c.in-Ok-check_rule.ensures in
    let n = in_range _ _ c.args.method _ built in
    (n.0, n.1, rule_again _ _ _ (sym told) 0)

pub returns-in-Ok-check_rule : goal.returns-in-Ok-check_rule
returns-in-Ok-check_rule c =
    let done = c.in-Ok.is in
    let built = built_view _ _ c.build_flagged-built.ensures done in
    let told = c.in-Ok-check_rule.ensures in
    builds_same _ _ _ (rule_taken _ _ _ _ built _ _ told c.flag_by_rule-flag.ensures) (builds_done _ _ done refl)
