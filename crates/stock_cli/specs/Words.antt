-- The command that words name, or the first thing that is wrong with them. Places of words count from 0 in commands and from 1 in refusals.
use Rattle.std.specs.Prelude.{ℕ, ◌+◌, List, [], ◌∷◌, length, map, codes, slice_index, ◌==◌, ◌&&◌, Bool, nat_le, if◌then◌else◌, Option, Some, None, Result, Ok, Err, String, string_bytes, ℤ, pos}
use Rattle.std.specs.declared.alloc.Global.{Global}
use Rattle.std.specs.Str.{bytes_eq}
use Rattle.value_cert.specs.Parsing.{word_number}
use Rattle.stock_cli.specs.Names.{verb_named, part_named, act_named}
use Rattle.stock_cli.specs.declared.names.Verb.{Verb}
use Rattle.stock_cli.specs.declared.names.Verb.TheVariants as verb
use Rattle.stock_cli.specs.declared.names.Part.{Part}
use Rattle.stock_cli.specs.declared.names.Part.TheVariants as part
use Rattle.stock_cli.specs.declared.names.Act.{Act}
use Rattle.stock_cli.specs.declared.names.Act.TheVariants as act
use Rattle.stock_cli.specs.declared.words.Action.{Action}
use Rattle.stock_cli.specs.declared.words.Action.TheVariants as action
use Rattle.stock_cli.specs.declared.words.Command.{Command}
use Rattle.stock_cli.specs.declared.words.Command.TheVariants as command
use Rattle.stock_cli.specs.declared.words.WordErr.{WordErr}
use Rattle.stock_cli.specs.declared.words.WordErr.TheVariants.{NoCommand, UnknownCommand, UnknownAction, TooFew, TooMany, EmptyName, NoOption, BadNumber, TwoInputs}

-- the name is an option's: it begins with a hyphen and has more behind it
abbrev pub is_option : List ℕ → Bool
is_option name = (slice_index name 0 == 45) && nat_le 2 (length name)

-- the input that the word at a place names: a hyphen means standard input, which is none of the words
abbrev pub input_of : ℕ → List ℕ → Result (Option ℕ) WordErr
input_of place name =
    if length name == 0 then Err (EmptyName (place + 1))
    else (if is_option name then Err (NoOption (place + 1))
    else (if bytes_eq name (codes "-") then Ok None else Ok (Some place)))

-- ---- the words for inputs, the first of which stands at a place
-- one input, which is standard input where no name stands
abbrev pub one_input : ℕ → List (List ℕ) → Result (Option ℕ) WordErr
one_input place [] = Ok None
one_input place (name ∷ []) = input_of place name
one_input place (name ∷ more ∷ words) = Err (TooMany (place + 2))

-- two inputs, not both of them standard input
abbrev pub both_inputs : ℕ → Option ℕ → Option ℕ → Result (Option ℕ × Option ℕ) WordErr
both_inputs place None None = Err (TwoInputs (place + 2))
both_inputs place instance cert = Ok (instance, cert)

abbrev pub second_input : ℕ → Option ℕ → Result (Option ℕ) WordErr → Result (Option ℕ × Option ℕ) WordErr
second_input place instance (Ok cert) = both_inputs place instance cert
second_input place instance (Err e) = Err e

abbrev pub first_input : ℕ → Result (Option ℕ) WordErr → List ℕ → Result (Option ℕ × Option ℕ) WordErr
first_input place (Ok instance) cert = second_input place instance (input_of (place + 1) cert)
first_input place (Err e) cert = Err e

abbrev pub two_inputs : ℕ → List (List ℕ) → Result (Option ℕ × Option ℕ) WordErr
two_inputs place [] = Err (TooFew (place + 1))
two_inputs place (instance ∷ []) = Err (TooFew (place + 2))
two_inputs place (instance ∷ cert ∷ []) = first_input place (input_of place instance) cert
two_inputs place (instance ∷ cert ∷ more ∷ words) = Err (TooMany (place + 3))

abbrev pub with_one : {C : Type 0} → (Option ℕ → C) → Result (Option ℕ) WordErr → Result C WordErr
with_one make (Ok input) = Ok (make input)
with_one make (Err e) = Err e

abbrev pub with_two : {C : Type 0} → (Option ℕ → Option ℕ → C) → Result (Option ℕ × Option ℕ) WordErr → Result C WordErr
with_two make (Ok inputs) = Ok (make inputs.0 inputs.1)
with_two make (Err e) = Err e

-- ---- commands of one word
-- a number from 0 to 999,999
abbrev pub trial_command : ℕ → Result Command WordErr
trial_command number = if nat_le number 999999 then Ok (command.Trial number) else Err (BadNumber 2)

abbrev pub numbered : Option ℤ → Result Command WordErr
numbered (Some (pos number)) = trial_command number
numbered _ = Err (BadNumber 2)

abbrev pub one_number : List (List ℕ) → Result Command WordErr
one_number [] = Err (TooFew 2)
one_number (number ∷ []) = numbered (word_number number)
one_number (number ∷ more ∷ words) = Err (TooMany 3)

abbrev pub no_word : List (List ℕ) → Result Command WordErr
no_word [] = Ok command.Help
no_word (more ∷ words) = Err (TooMany 2)

-- the command that a verb and the words behind it name
abbrev pub verb_command : Verb → List (List ℕ) → Result Command WordErr
verb_command verb.Solve words = with_one command.Solve (one_input 1 words)
verb_command verb.Certify words = with_one command.Certify (one_input 1 words)
verb_command verb.Check words = with_two command.Check (two_inputs 1 words)
verb_command verb.Demand words = with_one command.Demand (one_input 1 words)
verb_command verb.Simulate words = with_one command.Simulate (one_input 1 words)
verb_command verb.Trial words = one_number words
verb_command verb.Help words = no_word words

-- ---- commands of two words
-- the action that an act and the words behind it name
abbrev pub act_action : Act → List (List ℕ) → Result Action WordErr
act_action act.Solve words = with_one action.Solve (one_input 2 words)
act_action act.Certify words = with_one action.Certify (one_input 2 words)
act_action act.Check words = with_two action.Check (two_inputs 2 words)

abbrev pub known_action : Option Act → List (List ℕ) → Result Action WordErr
known_action (Some a) words = act_action a words
known_action None words = Err UnknownAction

-- the action of a part that the words behind its own name
abbrev pub part_action : Part → List (List ℕ) → Result Action WordErr
part_action p [] = Err (TooFew 2)
part_action p (word ∷ words) = known_action (act_named p word) words

-- the command of a part
abbrev pub part_command : Part → Action → Command
part_command part.Bracket a = command.Bracket a
part_command part.Pipeline a = command.Pipeline a
part_command part.Service a = command.Service a
part_command part.Pairs a = command.Pairs a

abbrev pub of_part : Part → Result Action WordErr → Result Command WordErr
of_part p (Ok a) = Ok (part_command p a)
of_part p (Err e) = Err e

-- ---- all words
abbrev pub part_words : Option Part → List (List ℕ) → Result Command WordErr
part_words (Some p) words = of_part p (part_action p words)
part_words None words = Err UnknownCommand

abbrev pub known_words : Option Verb → Option Part → List (List ℕ) → Result Command WordErr
known_words (Some v) p words = verb_command v words
known_words None p words = part_words p words

-- the command of words, which are lists of bytes
abbrev pub words_command : List (List ℕ) → Result Command WordErr
words_command [] = Err NoCommand
words_command (word ∷ words) = known_words (verb_named word) (part_named word) words

-- the command of a run's words, which don't hold the program's name
abbrev pub command_of : List (String Global) → Result Command WordErr
command_of words = words_command (map string_bytes words)
