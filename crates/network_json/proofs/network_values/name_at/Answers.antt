use Rattle.std.proofs.Common.{◌≡◌, ℕ, Option, None, sym, ap, ◌∙◌, rules}
use Rattle.json_forms.specs.NodeNames.{name_text}
use Rattle.network_json.specs.Network.{name_at}
use Rattle.json_forms.proofs.Texts.{outside_text}
use Rattle.network_json.proofs.network_values.name_at.Goals as goal

pub returns-in-None : goal.returns-in-None
returns-in-None c =
    let none : c.args.place ≡ None = search rules in
    sym (ap (λ (place : Option ℕ). name_text (name_at c.args.nodes.now place)) none ∙ outside_text)
