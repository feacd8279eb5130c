use Rattle.std.proofs.Common.{◌≡◌, ℕ, List, ◌++◌, codes, ap, sym, ◌∙◌, append_assoc}
use Rattle.std.specs.Prelude.{decimal}
use Rattle.std.proofs.lemmas.Result.{on_ok_weaker}
use Rattle.report_text.specs.Messages.{fault_words}
use Rattle.report_text.specs.declared.faults.Fault.TheVariants.{RuleOver}
use Rattle.report_text.proofs.faults.push_over.Goals as goal

pub returns : goal.returns
returns c =
    let over = c.args.over.now in
    let before = c.args.out.now in
    let node : List ℕ = codes "node " ++ decimal over.node ++ codes ": house rule answered " in
    let answer = decimal over.answer in
    let limit = codes ", its cap is " in
    let cap = decimal over.cap in
    let words : node ++ (answer ++ limit ++ cap) ≡ fault_words (RuleOver over) =
    sym (append_assoc node (answer ++ limit) cap) ∙ ap (λ (xs : List ℕ). xs ++ cap) (sym (append_assoc node answer limit)) in
    on_ok_weaker c.push_amounts.result
    (λ is. is ∙ ap (λ (xs : List ℕ). xs ++ (answer ++ limit ++ cap)) c.in_ok-push_numbered.ensures ∙ append_assoc before node (answer ++ limit ++ cap) ∙ ap (λ (xs : List ℕ). before ++ xs) words)
    c.push_amounts.ensures
