use Rattle.std.proofs.Common.{Some, string_bytes}
use Rattle.std.proofs.lemmas.Map.Text.{hash_map_updates_text}
use Rattle.stock_edge.proofs.StoredFiles.{held_added}
use Rattle.stock_edge.proofs.memory_files.FileStore.add.Goals as goal

pub returns-clause-ok : goal.returns-clause-ok
returns-clause-ok c =
    let bytes = c.in_ok-bytes.bytes in
    held_added _ _ _ _ _ bytes _ c.self.view_is c.in_ok-name.ensures.ok (c.in_ok-bytes.ensures.items_if_clones_equal (λ x y e. e))
    (hash_map_updates_text (string_bytes c.in_ok-name.name) c.self.inside.files c.insert.new.self (Some bytes) c.in_ok-insert.ensures.updates)
