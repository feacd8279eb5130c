-- One node's orders, and those of all nodes in turn.
use Rattle.std.proofs.Common.{◌≡◌, ◌≢◌, ℕ, zero, suc, ◌+◌, ◌<◌, Bool, cond, List, [], ◌∷◌, length, refl, sym, ◌∙◌, ap, subst, arith, get_or, add-one}
use Rattle.std.proofs.Math.ListN.{set}
use Rattle.std.proofs.lemmas.List.{get_or-set_same, get_or-set_other, set-set, length-set}
use Rattle.std.proofs.lemmas.List.Elements.{All-head, All-tail}
use Rattle.network_sim.specs.declared.links.Caller.{Caller}
use Rattle.node_state.specs.Holdings.{Holding, no_holding, no_leg, begun, with_claims, placed}
use Rattle.network_sim.specs.Machine.{node, fronts, AreCallers, noted_node, ordered_node, CanOrder, after_orders}

pub get_or_any : {X : Type 0} (xs : List X) (i : ℕ) (d e : X) → i < length xs → get_or xs i d ≡ get_or xs i e
get_or_any [] i d e lt = absurd (omega arith)
get_or_any (x ∷ xs) zero d e lt = refl
get_or_any (x ∷ xs) (suc i) d e lt = get_or_any xs i d e (omega arith)

pub fronts_other : (nodes : List Holding) (i : ℕ) (h : Holding) (cs : List Caller) → AreCallers nodes i cs → fronts (set nodes i h) cs ≡ fronts nodes cs
fronts_other nodes i h [] p = refl
fronts_other nodes i h (c ∷ cs) p =
    λ j. ap (λ (k : Holding). get_or (get_or k.legs c.source no_leg).way 0 0) (get_or-set_other nodes i c.node h no_holding other) j
    ∷ fronts_other nodes i h cs (All-tail (λ e. (e.node < i) × (e.source < length (node nodes e.node).legs)) c cs p) j
  where
    other : c.node ≢ i
    other = let a = (All-head (λ e. (e.node < i) × (e.source < length (node nodes e.node).legs)) c cs p).0 in omega arith

-- what is gathered depends on the callers alone
pub gathered : (nodes : List Holding) (i : ℕ) (begin : Holding) (cs ds : List Caller) → cs ≡ ds →
    set (set nodes i begin) i (with_claims (node (set nodes i begin) i) (fronts (set nodes i begin) cs)) ≡ set (set nodes i begin) i (with_claims (node (set nodes i begin) i) (fronts (set nodes i begin) ds))
gathered nodes i begin cs ds e = ap (λ xs. set (set nodes i begin) i (with_claims (node (set nodes i begin) i) (fronts (set nodes i begin) xs))) e

module _ (order : Holding → ℕ) (nodes : List Holding) (i : ℕ) (callers : List Caller) (d : ℕ) (paused : Bool) (can : CanOrder order nodes i callers d paused) where
  pub noted_is : (any : Holding) (begin : Holding) (now : List Holding) →
      begin ≡ begun (get_or nodes i any) d →
      now ≡ set (set nodes i begin) i (with_claims (node (set nodes i begin) i) (fronts (set nodes i begin) callers)) →
      now ≡ set nodes i (noted_node nodes i callers d)
  noted_is any begin now b e =
      e ∙ set-set nodes i begin _
      ∙ ap (set nodes i) (λ j. with_claims ((get_or-set_same nodes i begin no_holding can.is_node ∙ b ∙ ap (λ h. begun h d) (get_or_any nodes i any no_holding can.is_node)) j) (fronts_other nodes i begin callers can.are_callers j))

  pub ordered_is : (any : Holding) (now : List Holding) (q : ℕ) (new : Holding) →
      now ≡ set nodes i (noted_node nodes i callers d) →
      q ≡ cond paused 0 (order (noted_node nodes i callers d)) →
      new ≡ placed (get_or now i any) q →
      set now i new ≡ set nodes i (ordered_node order nodes i callers d paused)
  ordered_is any now q new e is made =
      ap (set now i) (made ∙ (λ j. placed ((ap (λ xs. get_or xs i any) e ∙ get_or-set_same nodes i _ any can.is_node) j) (is j)))
      ∙ ap (λ xs. set xs i (ordered_node order nodes i callers d paused)) e
      ∙ set-set nodes i _ _

  pub held_is : (any : Holding) (now : List Holding) → now ≡ set nodes i (noted_node nodes i callers d) → get_or now i any ≡ noted_node nodes i callers d
  held_is any now e = ap (λ xs. get_or xs i any) e ∙ get_or-set_same nodes i _ any can.is_node

pub after_length : (order : ℕ → Holding → ℕ) (callers : ℕ → List Caller) (demand : ℕ → ℕ) (paused : ℕ → Bool) (nodes : List Holding) (i : ℕ) → length (after_orders order callers demand paused nodes i) ≡ length nodes
after_length order callers demand paused nodes zero = refl
after_length order callers demand paused nodes (suc i) = length-set (after_orders order callers demand paused nodes i) i _ ∙ after_length order callers demand paused nodes i

pub can_moved : (f h : Holding → ℕ) (ns ms : List Holding) (i : ℕ) (cs ds : List Caller) (d : ℕ) (b : Bool) → f ≡ h → ns ≡ ms → cs ≡ ds → CanOrder h ms i ds d b → CanOrder f ns i cs d b
can_moved f h ns ms i cs ds d b e n q can =
    subst (λ k. CanOrder k ns i cs d b) (sym e) (subst (λ k. CanOrder h k i cs d b) (sym n) (subst (λ k. CanOrder h ms i k d b) (sym q) can))

pub after_more : (order : ℕ → Holding → ℕ) (callers : ℕ → List Caller) (demand : ℕ → ℕ) (paused : ℕ → Bool) (nodes : List Holding) (i : ℕ)
    (f : Holding → ℕ) (now new : List Holding) (cs : List Caller) → f ≡ order i → now ≡ after_orders order callers demand paused nodes i → cs ≡ callers i →
    new ≡ set now i (ordered_node f now i cs (demand i) (paused i)) → new ≡ after_orders order callers demand paused nodes (i + 1)
after_more order callers demand paused nodes i f now new cs e n q made =
    made ∙ (λ j. set (n j) i (ordered_node (e j) (n j) i (q j) (demand i) (paused i))) ∙ ap (after_orders order callers demand paused nodes) (sym (add-one i))
