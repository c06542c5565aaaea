use Rattle.std.proofs.Common.{◌≡◌, ◌∙◌, ap, ap₂, pos, rules, Some, [], ◌∷◌}
use Rattle.clap.specs.Words.{Rule, rule_of}
use Rattle.clap.specs.declared.builder.arg.Arg.{Arg}
use Rattle.clap.specs.declared.builder.value_parser.ValueParser.TheVariants.{Signed}
use Rattle.commandline.proofs.Ranges.{word-small}
use Rattle.commandline.proofs.commands.argument_of.Goals as goal

pub returns-clause-rule : goal.returns-clause-rule
returns-clause-rule c =
    let signed : c.signed-parser.result ≡ Signed (pos c.args.option.now.least) (pos c.args.option.now.most) =
    rw (c.from.ensures, c.from-2.ensures, word-small c.args.option.now.least (search rules), word-small c.args.option.now.most (search rules)) at c.signed-parser.ensures in
    ap rule_of c.help.ensures
    ∙ ap rule_of c.value_name.ensures
    ∙ ap (λ (r : Rule). record r { value_names = 1 }) (ap rule_of c.default_value.ensures)
    ∙ ap (λ (r : Rule). record r { value_names = 1; defaults = c.args.option.now.default.now ∷ [] }) (
    ap rule_of c.value_parser.ensures.others
    ∙ ap₂ (λ (r : Rule) parser. record r { parser = parser }) (ap rule_of c.long.ensures ∙ ap (λ (r : Rule). record r { long = Some c.args.option.now.name.now }) c.new.ensures.rule) (c.value_parser.ensures.given.1 ∙ ap Some (c.value_parser.ensures.given.2 ∙ signed))
    )

pub returns-clause-local : goal.returns-clause-local
returns-clause-local c =
    ap (λ (a : Arg). a.global) c.help.ensures ∙ ap (λ (a : Arg). a.global) c.value_name.ensures ∙ ap (λ (a : Arg). a.global) c.default_value.ensures ∙ ap (λ (a : Arg). a.global) c.value_parser.ensures.others ∙ ap (λ (a : Arg). a.global) c.long.ensures ∙ c.new.ensures.optional.1
