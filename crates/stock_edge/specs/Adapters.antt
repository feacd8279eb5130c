-- What contracts see of an adapter over a reader or a writer of std.
use Rattle.std.specs.Prelude.{ℕ}

-- what is adapted, and how many of its calls failed
pub record Adapter (T : Type 0) : Type 0 where
  pub inner : T
  pub faults : ℕ
