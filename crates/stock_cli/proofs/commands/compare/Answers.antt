use Rattle.std.proofs.Common.{◌≡◌, ℕ, List, Option, Result, Ok, IfSome, ap, inl, inr, refl, sym, ◌∙◌, subst}
use Rattle.std.proofs.lemmas.Result.{IfOk-weaker, IfErr-weaker}
use Rattle.stock_cli.specs.Causes.{ComparesInput, counts_of, FailedAt, IsRefused, IsUnread}
use Rattle.stock_cli.specs.Checks.{Reaches}
use Rattle.stock_cli.specs.Inputs.{Content, content_of, origin_of}
use Rattle.report_text.specs.declared.faults.Fault.{Fault}
use Rattle.stock_cli.specs.Endings.{check_ending}
use Rattle.stock_cli.specs.Outcome.{Plan, written}
use Rattle.stock_cli.specs.Subjects.{IsSolved, Stands}
use Rattle.stock_cli.proofs.Endings.{compare_claims, failed_later, is_standard, refuses_said, same_content, stands_said, tells_said}
use Rattle.stock_cli.proofs.commands.compare.Goals as goal

pub returns-in_err-item-clause-spared_files : goal.returns-in_err-item-clause-spared_files
returns-in_err-item-clause-spared_files g c = λ spares. c.in_err-item.ensures.same_files (is_standard _ (λ name e. spares.none name (inl e)))

pub returns-clause-spared_files : goal.returns-clause-spared_files
returns-clause-spared_files g c = λ spares.
    c.check.ensures.spared_files (λ name e built. spares.none name (inr (sym e, stands_said g.S.Subject.subject _ _ c.in_ok-item.ensures.said built)))
    ∙ c.in_ok-item.ensures.same_files (is_standard _ (λ name e. spares.none name (inl e)))

pub returns-clause-claims : goal.returns-clause-claims
returns-clause-claims g c =
    let same = same_content (g.I.Source.left c.args.input.now) (g.I.Source.left c.read_from.new.input) (g.F.Files.held c.args.files.now) (g.F.Files.held c.read_from.new.files) (origin_of c.args.cert.now)
    (λ none. ap g.I.Source.left (c.in_ok-item.ensures.same_input (λ first. c.requires first none))) c.in_ok-item.ensures.same_held in
    IfOk-weaker c.check.result _ _ (λ answer claimed done. compare_claims g.S.Subject.subject _ _ _ c.in_ok-item.item c.in_ok-item.ensures.said same (claimed done)) c.check.ensures.claims

pub returns-clause-refused : goal.returns-clause-refused
returns-clause-refused g c =
    let subject = g.S.Subject.subject in
    let item = c.in_ok-item.item in
    let from = origin_of c.args.from.now in
    let input = origin_of c.args.cert.now in
    let content : Content = content_of (g.I.Source.left c.args.input.now) (g.F.Files.held c.args.files.now) from in
    let cert : Content = content_of (g.I.Source.left c.args.input.now) (g.F.Files.held c.args.files.now) input in
    let later : List ℕ → Type 0 = λ name. IsSolved subject item × FailedAt (counts_of (g.I.Source.faults c.read_from.new.input) (g.I.Source.faults c.check.new.input) (g.F.Files.faults c.read_from.new.files) (g.F.Files.faults c.check.new.files)) input name in
    let all : List ℕ → Type 0 = IsUnread (counts_of (g.I.Source.faults c.args.input.now) (g.I.Source.faults c.check.new.input) (g.F.Files.faults c.args.files.now) (g.F.Files.faults c.check.new.files)) (ComparesInput (Stands subject) content from input) in
    let same = same_content (g.I.Source.left c.args.input.now) (g.I.Source.left c.read_from.new.input) (g.F.Files.held c.args.files.now) (g.F.Files.held c.read_from.new.files) input
    (λ none. ap g.I.Source.left (c.in_ok-item.ensures.same_input (λ first. c.requires first none))) c.in_ok-item.ensures.same_held in
    IfErr-weaker c.check.result _ _ (λ f h.
    let P : Content → Type 0 = λ found. IsRefused later (check_ending subject found item (subject.solved item)) f in
    refuses_said subject later all (λ i. check_ending subject cert i (subject.solved i)) _ item f
    (λ name failed. record {
      input = input;
      read = inr (refl, stands_said subject _ _ c.in_ok-item.ensures.said failed.0);
      failed = failed_later _ _ _ _ _ _ input name c.in_ok-item.ensures.later_input c.in_ok-item.ensures.later_files failed.1;
    })
    c.in_ok-item.ensures.said (subst P same h)) c.check.ensures.refused

pub returns-clause-ok : goal.returns-clause-ok
returns-clause-ok g c =
    let subject = g.S.Subject.subject in
    let item = c.in_ok-item.item in
    let input = origin_of c.args.cert.now in
    let content : Content = content_of (g.I.Source.left c.args.input.now) (g.F.Files.held c.args.files.now) (origin_of c.args.from.now) in
    let cert : Content = content_of (g.I.Source.left c.args.input.now) (g.F.Files.held c.args.files.now) input in
    let same = same_content (g.I.Source.left c.args.input.now) (g.I.Source.left c.read_from.new.input) (g.F.Files.held c.args.files.now) (g.F.Files.held c.read_from.new.files) input
    (λ none. ap g.I.Source.left (c.in_ok-item.ensures.same_input (λ first. c.requires first none))) c.in_ok-item.ensures.same_held in
    IfOk-weaker c.check.result _ _ (λ given h.
    let Told : Result Plan Fault → Type 0 = λ end. end ≡ Ok (written given) in
    let P : Content → Type 0 = λ found. IfSome (check_ending subject found item (subject.solved item)) Told in
    tells_said subject (λ i. check_ending subject cert i (subject.solved i)) content item Told c.in_ok-item.ensures.said (subst P same h)) c.check.ensures.ok

pub returns-clause-spared_input : goal.returns-clause-spared_input
returns-clause-spared_input g c = λ spares.
    c.check.ensures.spared_input (λ standard built. spares (inr (sym standard, stands_said g.S.Subject.subject _ _ c.in_ok-item.ensures.said built)))
    ∙ c.in_ok-item.ensures.same_input (λ first. spares (inl (sym first)))

pub returns-clause-reach : goal.returns-clause-reach
returns-clause-reach g c = λ standard.
    let subject = g.S.Subject.subject in
    let item = c.in_ok-item.item in
    let P : Option (List ℕ) → Type 0 = λ old. Reaches (subject.rules item) old (g.I.Source.left c.check.new.input) in
    let same = ap g.I.Source.left (c.in_ok-item.ensures.same_input (λ first. c.requires first standard)) in
    inr (record { item = item; said = c.in_ok-item.ensures.said; reaches = subst P same (c.check.ensures.reach standard) })
