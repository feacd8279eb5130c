-- One piece of a file after another, for whoever reads from the front to the end.
use Rattle.std.proofs.Common.{◌≡◌, ℕ, ◌+◌, ◌<◌, ◌≤◌, List, [], ◌∷◌, ◌++◌, length, take, drop, Some, None, IsSomeAnd, sym, ◌∙◌, ap, refl, arith}
use Rattle.std.specs.declared.option.Option.{Option}
use Rattle.std.specs.Io.{StartsWith}
use Rattle.std.proofs.lemmas.List.{length-append, length-take, length-take-le, take_all}
use Rattle.std.proofs.Math.Seq.{take-add}
use Rattle.stock_edge.specs.HeldFiles.{Held, GivesPiece, GivesHeld}
use Rattle.stock_edge.specs.WholeFile.{IsWholeFile, IsLongerThan}

-- the file of that name, which is held where there are bytes, begins with them, where the files tell what they hold
abbrev pub BeginsFile : Option Held → List ℕ → List ℕ → Type 0
BeginsFile None name bytes = Unit {0}
BeginsFile (Some held) name bytes = 0 < length bytes → IsSomeAnd (held name) (λ file. StartsWith file bytes)

-- no byte was read
pub begins_empty : (held : Option Held) (name : List ℕ) → BeginsFile held name []
begins_empty None name = tt
begins_empty (Some held) name = λ h. absurd (omega arith)

-- a file begins with no bytes, too
begins : (file bytes : List ℕ) → (0 < length bytes → StartsWith file bytes) → StartsWith file bytes
begins file [] h = refl
begins file (x ∷ xs) h = h (omega arith)

-- the next piece makes the front longer
piece_more : (file bytes buf : List ℕ) (count : ℕ) → StartsWith file bytes → count ≤ length buf → GivesPiece file (length bytes) buf count → StartsWith file (bytes ++ take count buf)
piece_more file bytes buf count start bound piece =
    let len : length (bytes ++ take count buf) ≡ length bytes + count = omega (arith, length-append bytes (take count buf), length-take-le count buf bound) in
    ap (λ n. take n file) len ∙ take-add (length bytes) count file ∙ ap (λ t. t ++ take count (drop (length bytes) file)) start ∙ ap (λ t. bytes ++ t) (sym piece.given)

-- the same of a name that is looked up
front_more : (o : Option (List ℕ)) (bytes buf : List ℕ) (count : ℕ) → (0 < length bytes → IsSomeAnd o (λ file. StartsWith file bytes)) → count ≤ length buf → IsSomeAnd o (λ file. GivesPiece file (length bytes) buf count)
    → IsSomeAnd o (λ file. StartsWith file (bytes ++ take count buf))
front_more None bytes buf count h bound piece = piece
front_more (Some file) bytes buf count h bound piece = piece_more file bytes buf count (begins file bytes h) bound piece

-- the front and the next piece
pub begins_more : (held : Option Held) (name bytes buf : List ℕ) (count : ℕ) → BeginsFile held name bytes → count ≤ length buf → GivesHeld held name (length bytes) buf count → BeginsFile held name (bytes ++ take count buf)
begins_more None name bytes buf count h bound piece = tt
begins_more (Some held) name bytes buf count h bound piece = λ _. front_more (held name) bytes buf count h bound piece

-- a front that ends where the file ends is the whole file
ends : (o : Option (List ℕ)) (bytes buf : List ℕ) → (0 < length bytes → IsSomeAnd o (λ file. StartsWith file bytes)) → 0 < length buf → IsSomeAnd o (λ file. GivesPiece file (length bytes) buf 0) → o ≡ Some bytes
ends None bytes buf h room piece = absurd piece
ends (Some file) bytes buf h room piece = ap Some (sym (take_all (length bytes) file (piece.end refl room)) ∙ begins file bytes h)

-- a read that gives nothing shows that all was read
pub whole_at_end : (held : Option Held) (name bytes buf : List ℕ) → BeginsFile held name bytes → 0 < length buf → GivesHeld held name (length bytes) buf 0 → IsWholeFile held name bytes
whole_at_end None name bytes buf h room piece = tt
whole_at_end (Some held) name bytes buf h room piece = ends (held name) bytes buf h room piece

-- a file is as long as its front at least
longer : (o : Option (List ℕ)) (bytes : List ℕ) (limit : ℕ) → IsSomeAnd o (λ file. StartsWith file bytes) → limit < length bytes → IsSomeAnd o (λ file. limit < length file)
longer None bytes limit h long = h
longer (Some file) bytes limit h long = omega (arith, long, ap length h, length-take (length bytes) file)

-- more bytes than the limit were read
pub longer_than : (held : Option Held) (name bytes : List ℕ) (limit : ℕ) → BeginsFile held name bytes → limit < length bytes → IsLongerThan held name limit
longer_than None name bytes limit h long = tt
longer_than (Some held) name bytes limit h long = longer (held name) bytes limit (h (omega arith)) long

-- what joins the pieces of a file that is read from the front
pub ruleset known_files = (begins_empty, begins_more, whole_at_end, longer_than)
