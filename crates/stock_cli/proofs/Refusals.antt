-- What is told of a run that is refused.
use Rattle.std.proofs.Common.{◌≡◌, ◌⊎◌, ℕ, List, Option, Some, None, Result, Ok, Err, IfSome, IsOk, IsSome, String, refl, sym, subst, inl, inr, ◌∙◌, ap}
use Rattle.std.specs.declared.alloc.Global.{Global}
use Rattle.std.specs.Io.KnownBytes.{Appends}
use Rattle.json_forms.specs.declared.fault.InstanceFault.{InstanceFault}
use Rattle.json_forms.specs.declared.fault.InstanceFault.TheVariants as instance_fault
use Rattle.node_state.specs.Handed.{Handed}
use Rattle.report_text.specs.declared.faults.Fault.{Fault}
use Rattle.report_text.specs.declared.faults.Fault.TheVariants as fault
use Rattle.stock_edge.specs.Causes.{Rose, AppendsPrefix}
use Rattle.stock_edge.specs.Known.{appends_none, prefix_none}
use Rattle.stock_cli.specs.Causes.{Counts, RoseAt, FailsOne, IsUnread, IsRefused, IsToldOf, IsCause, IsTold, words_fault, read_fault}
use Rattle.stock_cli.specs.Inputs.{Origin}
use Rattle.stock_cli.specs.Outcome.{Ending, Output, Planned, finished, message_of, outcome_of, text_of, status_of_outcome}
use Rattle.stock_cli.specs.Status.{IsDecided, instance_status, status_of, word_fault}
use Rattle.stock_cli.specs.Words.{command_of}
use Rattle.stock_cli.specs.declared.words.Command.{Command}
use Rattle.stock_cli.specs.declared.words.WordErr.{WordErr}
use Rattle.stock_cli.specs.declared.words.WordErr.TheVariants as words
use Rattle.stock_cli.specs.declared.status.Status.{Status}
use Rattle.stock_cli.specs.declared.status.Status.TheVariants as status

-- the status is that of the refusal, or that of want of memory
pub given_cases : (f : Fault) (given : Status) (before now : ℕ) (old new : Option (List ℕ)) → IsToldOf f given before now old new → (given ≡ status_of f) ⊎ (given ≡ status.Memory)
given_cases f given before now old new t = by_case t.of
  where
    by_case : (t.told ≡ f) ⊎ (t.told ≡ fault.Memory) → (given ≡ status_of f) ⊎ (given ≡ status.Memory)
    by_case (inl e) = inl (t.status_is ∙ ap status_of e)
    by_case (inr e) = inr (t.status_is ∙ ap status_of e)

-- what refuses a plan refuses the run
pub refused_finished : (unread : List ℕ → Type 0) (handed : List Handed) (plan : Planned) (f : Fault) → IsRefused unread plan f → IsRefused unread (finished handed plan) f
refused_finished unread handed plan (fault.ReadFault name) h = h
refused_finished unread handed plan fault.Memory h = tt
refused_finished unread handed plan fault.WriteFault h = h
refused_finished unread handed None f h = tt
refused_finished unread handed (Some plan) f h = ap (outcome_of handed) h

-- a run that ends with this fault has its status, and writes nothing
ends_with : (ending : Ending) (f : Fault) (w : Option (List ℕ)) → IfSome ending (λ end. end ≡ Err f) → IfSome ending (λ end. (status_of f ≡ status_of_outcome end) × Appends w w (text_of end))
ends_with None f w h = tt
ends_with (Some end) f w h = rw h (refl, appends_none w)

-- the same of a refusal whose status is decided
refused_ends : (unread : List ℕ → Type 0) (ending : Ending) (f : Fault) (w : Option (List ℕ)) → IsRefused unread ending f → IsDecided (status_of f) → IfSome ending (λ end. (status_of f ≡ status_of_outcome end) × Appends w w (text_of end))
refused_ends unread ending (fault.ReadFault name) w h decided = absurd decided
refused_ends unread ending fault.Memory w h decided = absurd decided
refused_ends unread ending fault.WriteFault w h decided = absurd h
refused_ends unread ending f w h decided = ends_with ending f w h

-- where the end is decided, it is that of the refusal
pub refusal_outcome : (unread : List ℕ → Type 0) (ending : Ending) (f : Fault) (given : Status) (w : Option (List ℕ)) → IsRefused unread ending f → (given ≡ status_of f) ⊎ (given ≡ status.Memory) → IfSome ending (λ end. IsDecided given → (given ≡ status_of_outcome end) × Appends w w (text_of end))
refusal_outcome unread None f given w h cases = tt
refusal_outcome unread (Some end) f given w h (inl e) = λ decided.
    let ends = refused_ends unread (Some end) f w h (subst IsDecided e decided) in
    (e ∙ ends.0, ends.1)
refusal_outcome unread (Some end) f given w h (inr e) = λ decided. absurd (subst IsDecided e decided)

-- a run that writes nothing has written the front of any text
pub nothing_written : (ending : Ending) (w : Option (List ℕ)) → IfSome ending (λ end. AppendsPrefix w w (text_of end))
nothing_written None w = tt
nothing_written (Some end) w = prefix_none w (text_of end)

-- a count that rose is that of standard input or that of the files
rose_one : (counts : Counts) (input : Origin) → RoseAt counts input → Rose counts.input_before counts.input_now ⊎ Rose counts.files_before counts.files_now
rose_one counts None h = inl h
rose_one counts (Some name) h = inr h

-- no error is an output
err_not_ok : (f : Fault) → IsOk {T = Output} (Err f) → ⊥
err_not_ok f h = cc h

none_not_some : IsSome {T = Fault} None → ⊥
none_not_some h = cc h

-- what ends with an output is refused for want of memory alone, where no count rose
ok_refused : (counts : Counts) (reads : Origin → Type 0) (end : Result Output Fault) (f : Fault) (given : Status) → IsOk end
    → (Rose counts.input_before counts.input_now → ⊥) → (Rose counts.files_before counts.files_now → ⊥)
    → given ≡ status_of f → IsRefused (IsUnread counts reads) (Some end) f → given ≡ status.Memory
ok_refused counts reads end (fault.ReadFault name) given ok ni nf e h = by_count (rose_one counts h.input h.failed.1)
  where
    by_count : Rose counts.input_before counts.input_now ⊎ Rose counts.files_before counts.files_now → given ≡ status.Memory
    by_count (inl r) = absurd (ni r)
    by_count (inr r) = absurd (nf r)
ok_refused counts reads end fault.Memory given ok ni nf e h = e
ok_refused counts reads end fault.WriteFault given ok ni nf e h = absurd h
ok_refused counts reads end f given ok ni nf e h = absurd (err_not_ok f (subst IsOk h ok))

pub refusal_complete : (counts : Counts) (reads : Origin → Type 0) (ending : Ending) (f : Fault) (given : Status) (other : Type 0)
    → IsRefused (IsUnread counts reads) ending f → (given ≡ status_of f) ⊎ (given ≡ status.Memory)
    → IfSome ending (λ end. IsOk end → ¬ Rose counts.input_before counts.input_now → ¬ Rose counts.files_before counts.files_now → ¬ other → (given ≡ status_of_outcome end) ⊎ (given ≡ status.Memory))
refusal_complete counts reads None f given other h cases = tt
refusal_complete counts reads (Some end) f given other h (inl e) = λ ok ni nf no. inr (ok_refused counts reads end f given ok ni nf e h)
refusal_complete counts reads (Some end) f given other h (inr e) = λ ok ni nf no. inr e

-- what refuses a run is the cause of its status
cause_of : (counts : Counts) (ending : Ending) (reads : Origin → Type 0) (given : Status) (f : Fault) → given ≡ status_of f → IsRefused (IsUnread counts reads) ending f → IsCause counts ending reads given f
cause_of counts ending reads given (fault.ReadFault name) e h = h
cause_of counts ending reads given fault.Memory e h = λ decided. absurd (subst IsDecided e decided)
cause_of counts ending reads given fault.WriteFault e h = absurd h
cause_of counts None reads given f e h = λ decided. tt
cause_of counts (Some end) reads given f e h = λ decided. ap message_of h

pub refusal_message : (counts : Counts) (ending : Ending) (reads : Origin → Type 0) (given : Status) (f : Fault) (before now : ℕ) (old new : Option (List ℕ)) → IsRefused (IsUnread counts reads) ending f → IsToldOf f given before now old new → IsTold counts ending reads given before now old new
refusal_message counts ending reads given f before now old new h t =
    record { refusal = t.told; status_is = t.status_is; cause = by_case t.of; part = t.part; whole = t.whole }
  where
    by_case : (t.told ≡ f) ⊎ (t.told ≡ fault.Memory) → IsCause counts ending reads given t.told
    by_case (inl e) = let P : Fault → Type 0 = IsCause counts ending reads given in subst P (sym e) (cause_of counts ending reads given f (t.status_is ∙ ap status_of e) h)
    by_case (inr e) = let P : Fault → Type 0 = IsCause counts ending reads given in subst P (sym e) (λ decided. absurd (subst IsDecided (t.status_is ∙ ap status_of e) decided))

-- a fault of the words has the status of the words
word_status : (e : WordErr) → status_of (word_fault e) ≡ status.Words
word_status words.NoCommand = refl
word_status words.UnknownCommand = refl
word_status words.UnknownAction = refl
word_status (words.TooFew word) = refl
word_status (words.TooMany word) = refl
word_status (words.EmptyName word) = refl
word_status (words.NoOption word) = refl
word_status (words.BadNumber word) = refl
word_status (words.TwoInputs word) = refl

read_status : (r : Result Command WordErr) (f : Fault) → read_fault r ≡ Some f → status_of f ≡ status.Words
read_status (Ok c) f e = absurd (cc e)
read_status (Err w) f e = let same : f ≡ word_fault w = cc e in ap status_of same ∙ word_status w

-- words with a fault are refused with the status of the words, or for want of memory
pub refusal_words : (run : List (String Global)) (f : Fault) (given : Status) → ((g : Fault) → words_fault run ≡ Some g → f ≡ g) → (given ≡ status_of f) ⊎ (given ≡ status.Memory) → IsSome (words_fault run) → (given ≡ status.Words) ⊎ (given ≡ status.Memory)
refusal_words run f given only cases some = by_fault (words_fault run) refl some cases
  where
    by_fault : (o : Option Fault) → words_fault run ≡ o → IsSome o → (given ≡ status_of f) ⊎ (given ≡ status.Memory) → (given ≡ status.Words) ⊎ (given ≡ status.Memory)
    by_fault None is some cases = absurd (none_not_some some)
    by_fault (Some g) is some (inl e) = inl (e ∙ ap status_of (only g is) ∙ read_status (command_of run) g is)
    by_fault (Some g) is some (inr e) = inr e

-- no fault of an instance is one of reading
not_read : (f : InstanceFault) → instance_status f ≡ status.ReadFault → ⊥
not_read instance_fault.Width e = cc e
not_read f e = cc e

unread_one : (counts : Counts) (reads : Origin → Type 0) (ending : Ending) (f : Fault) → IsRefused (IsUnread counts reads) ending f → status_of f ≡ status.ReadFault → FailsOne counts reads
unread_one counts reads ending (fault.ReadFault name) h e = (h.input, h.read, h.failed.1)
unread_one counts reads ending (fault.Instance f) h e = absurd (not_read f e)
unread_one counts reads ending f h e = absurd (cc e)

-- a run that ends with a read fault came to read an input that failed
pub refusal_read : (counts : Counts) (reads : Origin → Type 0) (ending : Ending) (f : Fault) (given : Status) → IsRefused (IsUnread counts reads) ending f → (given ≡ status_of f) ⊎ (given ≡ status.Memory) → given ≡ status.ReadFault → FailsOne counts reads
refusal_read counts reads ending f given h (inl e) is = unread_one counts reads ending f h (sym e ∙ is)
refusal_read counts reads ending f given h (inr e) is = absurd (cc (sym e ∙ is))
