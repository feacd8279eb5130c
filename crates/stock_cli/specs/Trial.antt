-- What a trial prints.
use Rattle.std.specs.Prelude.{ℕ, List, [], ◌++◌, Option, Some, None}
use Rattle.decision_model.specs.declared.instance.Instance.{Instance}
use Rattle.decision_model.specs.declared.instance.Instance.TheVariants as instance
use Rattle.network_model.specs.declared.network.Network.{Network}
use Rattle.node_state.specs.Table.{network_total}
use Rattle.decision_model.specs.Valid.{IsValid}
use Rattle.value_cert.specs.Meaning.{solved_cert}
use Rattle.value_cert.specs.declared.cert.Cert.{Cert}
use Rattle.report_text.specs.Trial.{certified_line, last_line, number_line, run_line}
use Rattle.trial_instances.specs.News.{trial_news}
use Rattle.trial_instances.specs.Lots.{trial_lots}
use Rattle.trial_instances.specs.Finite.{trial_finite}
use Rattle.trial_instances.specs.Average.{trial_average}
use Rattle.trial_instances.specs.Serial.{trial_serial}
use Rattle.trial_instances.specs.Network.{trial_network}
use Rattle.stock_cli.specs.KindSubject.{kind_subject}
use Rattle.stock_cli.specs.Subjects.{IsSolved}

abbrev pub line_of : Instance → Option Cert → List ℕ
line_of i (Some c) = certified_line i c
line_of i None = []

-- the line of an instance that is solved
abbrev pub solved_line : Instance → List ℕ
solved_line i = line_of i (solved_cert i)

-- the line of a network, to which no rule of the caller's own is handed in
abbrev pub network_line : Network → List ℕ
network_line net = run_line (network_total net [] net.periods)

-- the instance is a network, and its line
abbrev pub IsNetwork : Instance → Type 0
IsNetwork (instance.Network net) = Unit {0}
IsNetwork _ = ⊥

abbrev pub network_line_of : Instance → List ℕ
network_line_of (instance.Network net) = network_line net
network_line_of _ = []

-- the lines of the five instances that are solved
unfoldable pub solved_lines : ℕ → List ℕ
solved_lines number =
    solved_line (instance.News (trial_news number))
    ++ solved_line (instance.Lots (trial_lots number))
    ++ solved_line (instance.Finite (trial_finite number))
    ++ solved_line (instance.Average (trial_average number))
    ++ solved_line (instance.Serial (trial_serial number))

-- the text of the trial of a number
unfoldable pub trial_text : ℕ → List ℕ
trial_text number = number_line number ++ solved_lines number ++ network_line (trial_network number) ++ last_line

-- ---- what is tried
-- the instance is valid, and of a kind that is solved
pub record IsTried (i : Instance) : Type 0 where
  pub valid : IsValid i
  pub solved : IsSolved kind_subject i
