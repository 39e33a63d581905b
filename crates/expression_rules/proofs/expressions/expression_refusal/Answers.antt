use Rattle.std.proofs.Common.{◌≡◌, rules}
use Rattle.le.specs.Fields.{byte_at}
use Rattle.records.specs.Expressions.{kind_code}
use Rattle.records.proofs.KindLaws.{kind_back}
use Rattle.expression_rules.specs.Expressions.{expression_refusal}
use Rattle.expression_rules.proofs.expressions.expression_refusal.Goals as goal

pub returns-in_err-first_field_refusal : goal.returns-in_err-first_field_refusal
unfolding expression_refusal
returns-in_err-first_field_refusal c =
    let kind : kind_code c.from-kind.result ≡ byte_at c.args.s.now c.args.at = search (rules, kind_back) in
    search (rules, kind)

pub returns-in_err-second_field_refusal : goal.returns-in_err-second_field_refusal
unfolding expression_refusal
returns-in_err-second_field_refusal c =
    let kind : kind_code c.from-kind.result ≡ byte_at c.args.s.now c.args.at = search (rules, kind_back) in
    search (rules, kind)

pub returns : goal.returns
unfolding expression_refusal
returns c =
    let kind : kind_code c.from-kind.result ≡ byte_at c.args.s.now c.args.at = search (rules, kind_back) in
    search (rules, kind)
