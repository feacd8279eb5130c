-- What is proved of the certificates of newsvendors.
use Rattle.std.proofs.Common.{◌≡◌, List, [], ◌∷◌, ◌++◌, true, ℤ, pos, Some, refl, ap}
use Rattle.std.specs.Prelude.{unsigned_abs}
use Rattle.std.proofs.lemmas.Bool.{false≢true}
use Rattle.newsvendor.specs.declared.solve.NewsCert.{NewsCert}
use Rattle.decision_model.specs.declared.kinds.Kind.TheVariants as kind
use Rattle.value_cert.specs.Grammar.{has_numbers, place_from, has_ended}
use Rattle.value_cert.specs.GrammarFacts.{stepped, nowhere, at_ended, walk_from}
use Rattle.value_cert.specs.KindFacts.{HasRest, KindFacts, IsTold, natural_is, no_discount_is, no_discount_small}
use Rattle.value_cert.specs.News.{news_lines, news_follows}
use Rattle.value_cert.specs.Numbers.{is_natural}
use Rattle.value_cert.specs.declared.cert.Cert.{Cert}
use Rattle.value_cert.specs.declared.cert.Cert.TheVariants as cert
use Rattle.value_cert.specs.declared.line.CertLine.{CertLine}
use Rattle.value_cert.specs.declared.line.CertLine.TheVariants as line
use Rattle.value_cert.specs.declared.line.Tag.{Tag}
use Rattle.value_cert.specs.declared.line.Tag.TheVariants as tag
use Rattle.value_cert.specs.declared.place.Place.TheVariants as place

-- the certificate that lines tell
abbrev news_told : List CertLine → NewsCert
news_told (line.Level level ∷ line.Cost cost ∷ lines) = record { q = unsigned_abs level; cost = unsigned_abs cost }
news_told _ = record { q = 0; cost = 0 }

abbrev pub news_in : ℤ → ℤ → List CertLine → Cert
news_in num den lines = cert.News (news_told lines)

news_is : (c : NewsCert) → news_in (pos 1) (pos 1) (news_lines c ++ line.End ∷ []) ≡ cert.News c
news_is c = refl

news_ends : (c : NewsCert) → has_ended (walk_from (Some (place.Behind kind.News tag.Head)) (news_lines c ++ line.End ∷ [])) ≡ true
news_ends c = refl

end_behind : (lines : List CertLine) → has_ended (place_from (Some (place.Behind kind.News tag.Cost)) lines) ≡ true → lines ≡ line.End ∷ []
end_behind [] h = absurd (false≢true h)
end_behind (line.End ∷ xs) h = ap (λ t. line.End ∷ t) (at_ended kind.News (λ next. refl) xs h)
end_behind (x ∷ xs) h = nowhere (has_numbers x) xs h

news_back : (lines : List CertLine) → has_ended (place_from (Some (place.Behind kind.News tag.Head)) lines) ≡ true → news_lines (news_told lines) ++ line.End ∷ [] ≡ lines
news_back [] h = absurd (false≢true h)
news_back (line.Level level ∷ []) h = absurd (false≢true (stepped (is_natural level) (Some (place.Behind kind.News tag.Level)) [] h).1)
news_back (line.Level level ∷ line.Cost cost ∷ lines) h =
    let step = stepped (is_natural level) (Some (place.Behind kind.News tag.Level)) (line.Cost cost ∷ lines) h in
    let next = stepped (is_natural cost) (Some (place.Behind kind.News tag.Cost)) lines step.1 in
    cc (natural_is level step.0, natural_is cost next.0, end_behind lines next.1)
news_back (line.Level level ∷ x ∷ xs) h =
    nowhere (has_numbers x) xs (stepped (is_natural level) (Some (place.Behind kind.News tag.Level)) (x ∷ xs) h).1
news_back (x ∷ xs) h = nowhere (has_numbers x) xs h

further : (last next : Tag) → news_follows last next ≡ true → HasRest (place.Behind kind.News next)
further tag.Head tag.Level h = record { rest = line.Cost (pos 0) ∷ line.End ∷ []; ends = refl }
further tag.Level tag.Cost h = record { rest = line.End ∷ []; ends = refl }
further tag.Cost tag.End h = record { rest = []; ends = refl }
further _ _ h = absurd (false≢true h)

pub news_is_told : (c : NewsCert) → IsTold (cert.News c) news_in
news_is_told c = record { is = λ complete. news_is c; ends = λ complete. news_ends c }

pub news_facts : KindFacts kind.News news_in
news_facts = record {
  discount = no_discount_small;
  plain = λ num den h. refl;
  last = λ next. refl;
  first = λ num den h. record { rest = line.Level (pos 0) ∷ line.Cost (pos 0) ∷ line.End ∷ []; ends = refl };
  further = further;
  tells = λ num den lines fits h.
      let one = no_discount_is num den fits in
      record { complete = tt; is = cc (one.0, one.1, news_back lines h) };
}
