-- What a command asks for: the one dispatch by command.
use Rattle.std.specs.Prelude.{◌≡◌, ◌⊎◌, ℕ, Option, None, true}
use Rattle.stock_cli.specs.Names.{is_built}
use Rattle.stock_cli.specs.declared.words.Action.{Action}
use Rattle.stock_cli.specs.declared.words.Action.TheVariants as action
use Rattle.stock_cli.specs.declared.words.Command.{Command}
use Rattle.stock_cli.specs.declared.words.Command.TheVariants as command
use Rattle.stock_cli.specs.declared.asked.About.{About}
use Rattle.stock_cli.specs.declared.asked.About.TheVariants as about
use Rattle.stock_cli.specs.declared.asked.Asked.{Asked}
use Rattle.stock_cli.specs.declared.asked.Asked.TheVariants as asked
use Rattle.stock_cli.specs.declared.asked.KindQuestion.TheVariants as question
use Rattle.stock_cli.specs.declared.names.Part.TheVariants as part

-- what a command asks for
abbrev pub asked_of : Command → Asked
asked_of (command.Solve place) = asked.Action about.Kinds (action.Solve place)
asked_of (command.Certify place) = asked.Action about.Kinds (action.Certify place)
asked_of (command.Check instance cert) = asked.Action about.Kinds (action.Check instance cert)
asked_of (command.Demand place) = asked.Kind question.Demand place
asked_of (command.Simulate place) = asked.Kind question.Simulate place
asked_of (command.Trial number) = asked.Number number
asked_of command.Help = asked.Nothing
asked_of (command.Bracket a) = asked.Action (about.Part part.Bracket) a
asked_of (command.Pipeline a) = asked.Action (about.Part part.Pipeline) a
asked_of (command.Service a) = asked.Action (about.Part part.Service) a
asked_of (command.Pairs a) = asked.Action (about.Part part.Pairs) a

-- the kinds always run, and a part where it is built
abbrev pub Runs : About → Type 0
Runs about.Kinds = Unit {0}
Runs (about.Part p) = is_built p ≡ true

-- a file is wanted beside standard input
abbrev pub AreApart : Option ℕ → Option ℕ → Type 0
AreApart instance cert = instance ≡ None → cert ≡ None → ⊥

-- an action takes standard input but once
abbrev pub IsApart : Action → Type 0
IsApart (action.Check instance cert) = AreApart instance cert
IsApart _ = Unit {0}

-- what words may ask for: of what runs, and of two inputs only one from standard input
abbrev pub CanRun : Asked → Type 0
CanRun (asked.Action of a) = Runs of × IsApart a
CanRun _ = Unit {0}

-- the inputs of an action, by their places among the words
abbrev pub IsActionInput : Action → Option ℕ → Type 0
IsActionInput (action.Solve input) place = place ≡ input
IsActionInput (action.Certify input) place = place ≡ input
IsActionInput (action.Check instance cert) place = (place ≡ instance) ⊎ (place ≡ cert)

-- the inputs that are asked
abbrev pub IsInputOf : Asked → Option ℕ → Type 0
IsInputOf (asked.Action of a) place = IsActionInput a place
IsInputOf (asked.Kind question input) place = place ≡ input
IsInputOf (asked.Number number) place = ⊥
IsInputOf asked.Nothing place = ⊥

-- the action checks a certificate
abbrev pub IsCheckAction : Action → Type 0
IsCheckAction (action.Check instance cert) = Unit {0}
IsCheckAction _ = ⊥

-- a certificate is checked
abbrev pub IsComparison : Asked → Type 0
IsComparison (asked.Action of a) = IsCheckAction a
IsComparison _ = ⊥
