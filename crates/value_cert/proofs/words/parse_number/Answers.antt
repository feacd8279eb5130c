use Rattle.std.proofs.Common.{sym, ◌∙◌}
use Rattle.std.proofs.lemmas.Bool.{false≢true}
use Rattle.value_cert.specs.NumberFacts.{word_number_refused}
use Rattle.value_cert.proofs.words.parse_number.Goals as goal

pub returns-then-not-is_plain_number : goal.returns-then-not-is_plain_number
returns-then-not-is_plain_number c =
    sym (word_number_refused c.args.word.now (λ facts whole. false≢true (sym c.if-not-is_plain_number.true ∙ c.is_plain_number.ensures ∙ facts.plain)))
