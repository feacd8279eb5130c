use Rattle.std.proofs.Common.{refl}
use Rattle.cert_check.proofs.check.Check.new.Goals as goal

pub returns : goal.returns
returns c = record {
  valid = c.requires.valid;
  stands = record { said = refl; passing = λ none. record { unbroken = refl; place = refl; count = refl; known = c.new.ensures.knows } };
}
