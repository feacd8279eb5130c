-- A check that is of one instance of its kind, and knows what the lines so far name.
use Rattle.std.specs.Prelude.{◌≡◌, ℕ, List, Option}
use Rattle.value_cert.specs.Rules.{Rules, known_of}
use Rattle.value_cert.specs.declared.line.CertLine.{CertLine}

-- the rules of a kind's instances: what no line names, what a further line does, and the least rule that it breaks
module _ {Item Known : Type 0} (nothing : Item → Known) (named : Item → Known → CertLine → Known) (rule : Item → Known → CertLine → Option ℕ) where
  abbrev pub rules_for : Item → Rules
  rules_for item = record { Known = Known; nothing = nothing item; further = named item; broken = rule item }

  -- the check holds this instance, and knows what the lines name
  pub record KnowsLines (item held : Item) (Knows : Known → Type 0) (lines : List CertLine) : Type 0 where
    pub item_is : held ≡ item
    pub named_is : Knows (known_of (rules_for item) lines)
