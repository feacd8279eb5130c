use Rattle.std.proofs.Common.{Some, None}
use Rattle.stock_edge.proofs.StoredFiles.{held_found}
use Rattle.stock_edge.proofs.memory_files.FileStore.read_at.Goals as goal

pub returns-in-None-clause-exact : goal.returns-in-None-clause-exact
returns-in-None-clause-exact c = rw (held_found _ _ _ None c.self.view_is c.in-None.ensures.value)

pub returns-in-Some-clause-bytes : goal.returns-in-Some-clause-bytes
returns-in-Some-clause-bytes c =
    rw (held_found _ _ _ (Some c.in-Some.file.now) c.self.view_is c.in-Some.ensures.value) (rw c.deref.ensures.value at c.give_from.ensures.given)

pub returns-in-Some-clause-exact : goal.returns-in-Some-clause-exact
returns-in-Some-clause-exact c =
    rw (held_found _ _ _ (Some c.in-Some.file.now) c.self.view_is c.in-Some.ensures.value, ← c.deref.ensures.value, ← c.give_from.ensures.count)
