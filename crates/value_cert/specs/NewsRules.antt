-- What a certificate of a newsvendor has to say, line by line and as a whole.
use Rattle.std.specs.Prelude.{◌≡◌, ℕ, ◌+◌, ◌*◌, List, length, Bool, ◌||◌, not, if◌then◌else◌, nat_le, ℤ, pos, negsuc, ◌-ℤ◌, unsigned_abs, sum, Option, Some, None}
use Rattle.demand_law.specs.Law.{upto_of}
use Rattle.fraction128.specs.Reduced.{lowest_num, lowest_den}
use Rattle.newsvendor.specs.Item.{NewsvendorItem}
use Rattle.newsvendor.specs.Least.{first_least_upto}
use Rattle.newsvendor.specs.Level.{cost_of, LeastLevel}
use Rattle.newsvendor.specs.declared.solve.NewsCert.{NewsCert}
use Rattle.value_cert.specs.Numbers.{is_number}
use Rattle.value_cert.specs.Rules.{Rules}
use Rattle.value_cert.specs.Standard.{Standard}
use Rattle.value_cert.specs.declared.cert.Cert.{Cert}
use Rattle.value_cert.specs.declared.cert.Cert.TheVariants as cert
use Rattle.value_cert.specs.declared.line.CertLine.{CertLine}
use Rattle.value_cert.specs.declared.line.CertLine.TheVariants.{Level, Cost}

-- the sum of the weights up to a level; none is below 0
abbrev pub weights_upto : List ℕ → ℤ → ℕ
weights_upto law (pos level) = upto_of law level
weights_upto law (negsuc below) = 0

-- the weights up to a level are at least stockout/(holding + stockout) of all weights
abbrev pub reaches_ratio : NewsvendorItem → ℤ → Bool
reaches_ratio newsvendor level =
    nat_le (newsvendor.stockout * sum newsvendor.law) ((newsvendor.holding + newsvendor.stockout) * weights_upto newsvendor.law level)

-- the level below doesn't reach the ratio, or there is none
abbrev pub is_first_level : NewsvendorItem → ℤ → Bool
is_first_level newsvendor level = is_number (pos 0) level || not (reaches_ratio newsvendor (level -ℤ pos 1))

-- the least rule that a level breaks: it reaches the critical ratio (3), and is the first that does (4)
abbrev pub level_rule : NewsvendorItem → ℤ → Option ℕ
level_rule newsvendor level =
    if reaches_ratio newsvendor level then (if is_first_level newsvendor level then None else Some 4) else Some 3

-- the rule that the cost of a level breaks: it is its cost (5)
abbrev pub cost_rule : NewsvendorItem → ℕ → ℤ → Option ℕ
cost_rule newsvendor level cost = if is_number (cost_of newsvendor level) cost then None else Some 5

-- the level that the lines name, 0 before they do
abbrev pub named_level : ℕ → CertLine → ℕ
named_level so_far (Level level) = unsigned_abs level
named_level so_far _ = so_far

-- the least rule from 2 on that a line breaks, a level being named
abbrev pub news_rule : NewsvendorItem → ℕ → CertLine → Option ℕ
news_rule newsvendor named (Level level) = level_rule newsvendor level
news_rule newsvendor named (Cost cost) = cost_rule newsvendor named cost
news_rule newsvendor named _ = None

abbrev pub news_rules : NewsvendorItem → Rules
news_rules newsvendor = record { Known = ℕ; nothing = 0; further = named_level; broken = news_rule newsvendor }

-- no natural level costs less than this one and each lower one costs more, and this is its cost
pub record IsLeastLevelAt (newsvendor : NewsvendorItem) (c : NewsCert) : Type 0 where
  pub level : LeastLevel newsvendor c.q
  pub cost : pos c.cost ≡ cost_of newsvendor c.q

abbrev pub CertifiesLevel : NewsvendorItem → Cert → Type 0
CertifiesLevel newsvendor (cert.News c) = IsLeastLevelAt newsvendor c
CertifiesLevel newsvendor _ = ⊥

-- the certificate of a newsvendor: the least level of least cost
abbrev pub solved_news : NewsvendorItem → NewsCert
solved_news newsvendor =
    let level = first_least_upto (cost_of newsvendor) (length newsvendor.law) in
    record { q = level; cost = unsigned_abs (cost_of newsvendor level) }

-- the printed cost: that of the certificate over the sum of the weights
abbrev pub news_num : NewsvendorItem → Cert → ℤ
news_num newsvendor (cert.News c) = lowest_num (pos c.cost) (sum newsvendor.law)
news_num newsvendor _ = pos 0

abbrev pub news_den : NewsvendorItem → Cert → ℕ
news_den newsvendor (cert.News c) = lowest_den (pos c.cost) (sum newsvendor.law)
news_den newsvendor _ = 1

abbrev pub news_standard : NewsvendorItem → Standard
news_standard newsvendor = record {
  rules = news_rules newsvendor;
  Certifies = CertifiesLevel newsvendor;
  solved = Some (cert.News (solved_news newsvendor));
  printed_num = news_num newsvendor;
  printed_den = news_den newsvendor;
}
