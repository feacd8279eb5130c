use Rattle.value_cert.specs.HasTexts.{least_level_text, lots_text}
use Rattle.value_cert.proofs.laws.solutions_have_texts.Goals as goal

pub returns-clause-levels : goal.returns-clause-levels
returns-clause-levels c = λ item told valid least small. least_level_text item valid told least small

pub returns-clause-plans : goal.returns-clause-plans
returns-clause-plans c = lots_text
