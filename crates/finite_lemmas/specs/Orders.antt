-- The least of a function that is convex but for a setup cost: who orders, and what that leaves.
use Rattle.std.proofs.Common.{◌≡◌, ℕ, zero, suc, ◌+◌, ◌-◌, ◌≤◌, ℤ, pos, negsuc, ◌+ℤ◌, ◌-ℤ◌, ◌*ℤ◌, ◌≤ℤ◌, ◌<ℤ◌, Bool, true, false, if◌then◌else◌, refl, ap, arith, subst}
use Rattle.std.proofs.lemmas.Int.{ints, by_lt_z}
use Rattle.std.specs.Prelude.{int_lt}
use Rattle.std.specs.Int.Signed.{≤ℤ_refl}
use borrow.Author.Differences.{up, down}
use Rattle.demand_law.specs.Integers as Z
use Rattle.decision_model.specs.FiniteProblem.{setup_of}
use Rattle.finite_lemmas.specs.OrderForms.{IsFirstIn, IsOrderForm}
use Rattle.finite_lemmas.specs.KConvex.{IsKConvexOn, slopes, from_slopes, flat}

-- ---- plain numbers
-- a product by at least 1 keeps its sign
pub cancel : (r : ℕ) (v : ℤ) → 1 ≤ r → pos 0 ≤ℤ (pos r *ℤ v) → pos 0 ≤ℤ v
cancel r v some h = by_lt_z v (pos 0)
    (λ below. absurd (omega (arith, ints, some, h, Z.weight_mono r v (negsuc 0) (omega (arith, ints, below)))))
    (λ above. above)

-- a product by a natural number isn't below 0 where the other factor isn't
pub product_above : (r : ℕ) (v : ℤ) → pos 0 ≤ℤ v → pos 0 ≤ℤ (pos r *ℤ v)
product_above r v h = subst (λ (z : ℤ). z ≤ℤ (pos r *ℤ v)) (Z.mul_zero (pos r)) (Z.weight_mono r (pos 0) v h)

-- a product by at least 1 is below 0 where the other factor is
product_below : (r : ℕ) (v : ℤ) → 1 ≤ r → v <ℤ pos 0 → (pos r *ℤ v) <ℤ pos 0
product_below r v some h = omega (arith, ints, some, Z.weight_mono r v (negsuc 0) (omega (arith, ints, h)))

-- how far it is from a to b
pub gap : ℤ → ℤ → ℕ
gap a b = up (b -ℤ a) - down (b -ℤ a)

-- and that far above a stands b
pub gap_is : (a b : ℤ) → a ≤ℤ b → a +ℤ pos (gap a b) ≡ b
unfolding gap
gap_is a b h = omega (arith, ints, h)

-- at least 1 where b is above a
pub gap_some : (a b : ℤ) → a <ℤ b → 1 ≤ gap a b
unfolding gap
gap_some a b h = omega (arith, ints, h)

-- ---- the first least
-- two first leasts are one
pub first_unique : (f : ℤ → ℤ) (low cap a b : ℤ) → IsFirstIn f low cap a → IsFirstIn f low cap b → a ≡ b
first_unique f low cap a b is other = by_lt_z a b
    (λ lt. absurd (omega (arith, ints, is.least b other.from_low other.to_cap, other.first a is.from_low lt)))
    (λ ge. by_lt_z b a
    (λ gt. absurd (omega (arith, ints, other.least a is.from_low is.to_cap, is.first b other.from_low gt)))
    (λ le. Z.le_antisym a b le ge))

-- a constant on top changes nothing
pub first-less : (f g : ℤ → ℤ) (c low cap at : ℤ) → ((y : ℤ) → f y ≡ g y +ℤ c) → IsFirstIn f low cap at → IsFirstIn g low cap at
first-less f g c low cap at e is = record {
  from_low = is.from_low;
  to_cap = is.to_cap;
  least = λ y from to. omega (arith, ints, e at, e y, is.least y from to);
  first = λ y from lt. omega (arith, ints, e at, e y, is.first y from lt);
}

-- staying has no setup cost
pub setup_stay : (K : ℕ) (x : ℤ) → setup_of K x x ≡ pos 0
setup_stay K x = by (int_lt x x) refl
  where
    by : (b : Bool) → int_lt x x ≡ b → (if b then pos K else pos 0) ≡ pos 0
    by true e = absurd (omega (arith, ints, e))
    by false e = refl

-- an order has one
pub setup_move : (K : ℕ) (x y : ℤ) → x <ℤ y → setup_of K x y ≡ pos K
setup_move K x y lt = by (int_lt x y) refl
  where
    by : (b : Bool) → int_lt x y ≡ b → (if b then pos K else pos 0) ≡ pos K
    by true e = refl
    by false e = absurd (omega (arith, ints, e, lt))

module _ (G : ℤ → ℤ) (K : ℕ) (low cap S : ℤ) (convex : IsKConvexOn K low cap G) (is : IsFirstIn G low cap S) where
  -- from the least position on no order is cheaper
  stay_above : (x y : ℤ) → S ≤ℤ x → x <ℤ y → y ≤ℤ cap → G x ≤ℤ (G y +ℤ pos K)
  stay_above x y from lt to = by_lt_z S x
      (λ above.
      let r = gap S x in
      let k = gap x y in
      let behind : x -ℤ pos r ≡ S = omega (arith, ints, gap_is S x from) in
      let before : x +ℤ pos k ≡ y = gap_is x y (omega (arith, ints, lt)) in
      let slope = slopes K low cap G convex x r k (gap_some S x above) (gap_some x y lt) (omega (arith, ints, behind, is.from_low)) (omega (arith, ints, before, to)) in
      let rise = product_above k (G x -ℤ G (x -ℤ pos r)) (omega (arith, ints, ap G behind, is.least x (omega (arith, ints, is.from_low, from)) (omega (arith, ints, lt, to)))) in
      let gain = cancel r (pos K +ℤ G (x +ℤ pos k) -ℤ G x) (gap_some S x above) (Z.le_trans _ _ _ rise slope) in
      omega (arith, ints, gain, ap G before))
      (λ same.
      let e : x ≡ S = Z.le_antisym x S same from in
      omega (arith, ints, ap G e, is.least y (omega (arith, ints, is.from_low, from, lt)) to))

  -- where an order is cheaper, it is so at all lower positions
  pub order_below : (x lower : ℤ) → low ≤ℤ lower → lower <ℤ x → x <ℤ S → (pos K +ℤ G S) <ℤ G x → (pos K +ℤ G S) <ℤ G lower
  order_below x lower from lt to cheaper =
      let r = gap lower x in
      let k = gap x S in
      let behind : x -ℤ pos r ≡ lower = omega (arith, ints, gap_is lower x (omega (arith, ints, lt))) in
      let before : x +ℤ pos k ≡ S = gap_is x S (omega (arith, ints, to)) in
      let slope = slopes K low cap G convex x r k (gap_some lower x lt) (gap_some x S to) (omega (arith, ints, behind, from)) (omega (arith, ints, before, is.to_cap)) in
      let fall = product_below r (pos K +ℤ G (x +ℤ pos k) -ℤ G x) (gap_some lower x lt) (omega (arith, ints, ap G before, cheaper)) in
      by_lt_z (G x) (G lower)
      (λ rises. omega (arith, ints, cheaper, rises))
      (λ falls. absurd (omega (arith, ints, slope, fall, product_above k (G x -ℤ G (x -ℤ pos r)) (omega (arith, ints, ap G behind, falls)))))

  -- of n positions from low up, the first m order and the others stay
  pub record IsSplit (n : ℕ) : Type 0 where
    pub m : ℕ
    pub within : m ≤ n
    pub orders : (x : ℤ) → low ≤ℤ x → x <ℤ (low +ℤ pos m) → (pos K +ℤ G S) <ℤ G x
    pub stays : (x : ℤ) → (low +ℤ pos m) ≤ℤ x → x <ℤ (low +ℤ pos n) → G x ≤ℤ (pos K +ℤ G S)

  pub split : (n : ℕ) → (low +ℤ pos n) ≤ℤ S → IsSplit n
  split zero h = record {
    m = 0;
    within = omega arith;
    orders = λ x from lt. absurd (omega (arith, ints, from, lt));
    stays = λ x from lt. absurd (omega (arith, ints, from, lt));
  }
  split (suc n) h = more (split n (omega (arith, ints, h)))
    where
      here : ℤ
      here = low +ℤ pos n

      more : IsSplit n → IsSplit (suc n)
      more before = by_lt_z (pos K +ℤ G S) (G here)
          (λ cheaper. record {
            m = suc n;
            within = omega arith;
            orders = λ x from lt. by_lt_z x here
                (λ lower. order_below here x from lower (omega (arith, ints, h)) cheaper)
                (λ ge. let e : x ≡ here = omega (arith, ints, lt, ge) in omega (arith, ints, ap G e, cheaper));
            stays = λ x from lt. absurd (omega (arith, ints, from, lt));
          })
          (λ dearer. record {
            m = before.m;
            within = omega (arith, before.within);
            orders = before.orders;
            stays = λ x from lt. by_lt_z x here
                (λ lower. before.stays x from lower)
                (λ ge. let e : x ≡ here = omega (arith, ints, lt, ge) in omega (arith, ints, ap G e, dearer));
          })

  -- ---- the first least from x to cap of G and the setup cost
  -- staying is the choice where no order is cheaper
  choice_stays : (x : ℤ) → x ≤ℤ cap → ((y : ℤ) → x <ℤ y → y ≤ℤ cap → G x ≤ℤ (G y +ℤ pos K)) → IsFirstIn (λ y. G y +ℤ setup_of K x y) x cap x
  choice_stays x to h = record {
    from_low = ≤ℤ_refl x;
    to_cap = to;
    least = λ y from below. by_lt_z x y
        (λ lt. omega (arith, ints, setup_stay K x, setup_move K x y lt, h y lt below))
        (λ ge. let e : x ≡ y = Z.le_antisym x y from ge in subst (λ (z : ℤ). (G x +ℤ setup_of K x x) ≤ℤ (G z +ℤ setup_of K x z)) e (≤ℤ_refl (G x +ℤ setup_of K x x)));
    first = λ y from lt. absurd (omega (arith, ints, from, lt));
  }

  -- where the least with the setup cost is cheaper, an order leads to the least position
  choice_orders : (x : ℤ) → low ≤ℤ x → x <ℤ S → (pos K +ℤ G S) <ℤ G x → IsFirstIn (λ y. G y +ℤ setup_of K x y) x cap S
  choice_orders x from lt cheaper = record {
    from_low = omega (arith, ints, lt);
    to_cap = is.to_cap;
    least = λ y above below. by_lt_z x y
        (λ more. omega (arith, ints, setup_move K x S lt, setup_move K x y more, is.least y (omega (arith, ints, from, above)) below))
        (λ ge. let e : x ≡ y = Z.le_antisym x y above ge in omega (arith, ints, setup_move K x S lt, setup_stay K x, ap (λ z. G z +ℤ setup_of K x z) e, cheaper));
    first = λ y above less. by_lt_z x y
        (λ more. omega (arith, ints, setup_move K x S lt, setup_move K x y more, is.first y (omega (arith, ints, from, above)) less))
        (λ ge. let e : x ≡ y = Z.le_antisym x y above ge in omega (arith, ints, setup_move K x S lt, setup_stay K x, ap (λ z. G z +ℤ setup_of K x z) e, cheaper));
  }

  -- staying is no dearer than the setup cost and the least, below the least position; above it always
  stay_cheap : (x : ℤ) → low ≤ℤ x → x <ℤ S → G x ≤ℤ (pos K +ℤ G S) → (y : ℤ) → x <ℤ y → y ≤ℤ cap → G x ≤ℤ (G y +ℤ pos K)
  stay_cheap x from lt cheap y more to = omega (arith, ints, cheap, is.least y (omega (arith, ints, from, more)) to)

  -- the choices have the form
  pub order_form : (to : ℤ → ℤ) → ((x : ℤ) → low ≤ℤ x → x ≤ℤ cap → IsFirstIn (λ y. G y +ℤ setup_of K x y) x cap (to x)) → (parts : IsSplit (gap low S)) → IsOrderForm to low cap S parts.m
  order_form to chosen parts = record {
    to_cap = is.to_cap;
    below = omega (arith, ints, end, parts.within);
    moves = λ x from lt. first_unique (λ y. G y +ℤ setup_of K x y) x cap (to x) S (chosen x from (omega (arith, ints, lt, end, parts.within, is.to_cap)))
        (choice_orders x from (omega (arith, ints, lt, end, parts.within)) (parts.orders x from lt));
    stays = λ x from below. first_unique (λ y. G y +ℤ setup_of K x y) x cap (to x) x (chosen x (omega (arith, ints, from)) below)
        (choice_stays x below (by_lt_z x S
        (λ lt. stay_cheap x (omega (arith, ints, from)) lt (parts.stays x from (omega (arith, ints, end, lt))))
        (λ ge y lt into. stay_above x y ge lt into)));
  }
    where
      end : low +ℤ pos (gap low S) ≡ S
      end = gap_is low S is.from_low

  -- ---- what the choices leave is convex but for the setup cost
  module _ (V : ℤ → ℤ) (m : ℕ) (m_below : (low +ℤ pos m) ≤ℤ S) (ordered : (x : ℤ) → low ≤ℤ x → x <ℤ (low +ℤ pos m) → V x ≡ pos K +ℤ G S) (stayed : (x : ℤ) → (low +ℤ pos m) ≤ℤ x → x ≤ℤ cap → V x ≡ G x) (near : (x : ℤ) → (low +ℤ pos m) ≤ℤ x → x <ℤ S → G x ≤ℤ (pos K +ℤ G S)) where
    -- from a position that stays, above the least position, to one that orders
    far : (y : ℤ) (r k : ℕ) → 1 ≤ r → 1 ≤ k → low ≤ℤ (y -ℤ pos r) → (y -ℤ pos r) <ℤ (low +ℤ pos m) → (y +ℤ pos k) ≤ℤ cap → (pos K +ℤ G S) <ℤ G y → S <ℤ y → (pos k *ℤ (G y -ℤ (pos K +ℤ G S))) ≤ℤ (pos r *ℤ (pos K +ℤ G (y +ℤ pos k) -ℤ G y))
    far y r k some_r some_k from lt to dear above =
        let q = gap S y in
        let behind : y -ℤ pos q ≡ S = omega (arith, ints, gap_is S y (omega (arith, ints, above))) in
        let slope = slopes K low cap G convex y q k (gap_some S y above) some_k (omega (arith, ints, behind, is.from_low)) to in
        let before = pos K +ℤ G (y +ℤ pos k) -ℤ G y in
        let rise = product_above k (G y -ℤ G (y -ℤ pos q)) (omega (arith, ints, ap G behind, dear)) in
        let gain = cancel q before (gap_some S y above) (Z.le_trans _ _ _ rise slope) in
        let shorter : q ≤ r = omega (arith, ints, behind, lt, m_below) in
        let less = Z.weight_mono k (G y -ℤ (pos K +ℤ G S)) (G y -ℤ G (y -ℤ pos q)) (omega (arith, ints, ap G behind)) in
        Z.le_trans _ _ _ less (Z.le_trans _ _ _ slope (longer q r before shorter gain))
      where
        longer : (q r : ℕ) (v : ℤ) → q ≤ r → pos 0 ≤ℤ v → (pos q *ℤ v) ≤ℤ (pos r *ℤ v)
        longer q r v le h =
            let e : r ≡ q + (r - q) = omega (arith, le) in
            let more = product_above (r - q) v h in
            omega (arith, ints, ap (λ n. pos n *ℤ v) e, Z.mul_sum q (r - q) v, more)

    -- the cost of the choices is convex but for the setup cost
    pub kconvex-order : IsKConvexOn K low cap V
    kconvex-order = from_slopes K low cap V each
      where
        first : ℤ
        first = low +ℤ pos m

        each : (y : ℤ) (r k : ℕ) → 1 ≤ r → 1 ≤ k → low ≤ℤ (y -ℤ pos r) → (y +ℤ pos k) ≤ℤ cap → (pos k *ℤ (V y -ℤ V (y -ℤ pos r))) ≤ℤ (pos r *ℤ (pos K +ℤ V (y +ℤ pos k) -ℤ V y))
        each y r k some_r some_k from to = by_lt_z (y -ℤ pos r) first
            (λ lower.
            let lo = ordered (y -ℤ pos r) from lower in
            by_lt_z y first
            (λ here.
            let at = ordered y (omega (arith, ints, from)) here in
            by_lt_z (y +ℤ pos k) first
            (λ upper. flat r k _ _ (omega (arith, ints, lo, at)) (omega (arith, ints, at, ordered (y +ℤ pos k) (omega (arith, ints, from)) upper)))
            (λ upper. flat r k _ _ (omega (arith, ints, lo, at)) (omega (arith, ints, at, stayed (y +ℤ pos k) upper to, is.least (y +ℤ pos k) (omega (arith, ints, from)) to))))
            (λ here.
            let at = stayed y here (omega (arith, ints, to)) in
            let hi = stayed (y +ℤ pos k) (omega (arith, ints, here)) to in
            by_lt_z (pos K +ℤ G S) (G y)
            (λ dear.
            let above : S <ℤ y = by_lt_z y S
            (λ below. absurd (omega (arith, ints, near y here below, dear)))
            (λ ge. by_lt_z S y (λ gt. gt) (λ le. let e : y ≡ S = Z.le_antisym y S le ge in absurd (omega (arith, ints, ap G e, dear)))) in
            let h = far y r k some_r some_k from lower to dear above in
            let behind : V y -ℤ V (y -ℤ pos r) ≡ G y -ℤ (pos K +ℤ G S) = omega (arith, ints, at, lo) in
            let before : pos K +ℤ V (y +ℤ pos k) -ℤ V y ≡ pos K +ℤ G (y +ℤ pos k) -ℤ G y = omega (arith, ints, at, hi) in
            omega (arith, ints, h, ap (λ z. pos k *ℤ z) behind, ap (λ z. pos r *ℤ z) before))
            (λ cheap. flat r k _ _ (omega (arith, ints, lo, at, cheap)) (omega (arith, ints, at, hi, cheap, is.least (y +ℤ pos k) (omega (arith, ints, from)) to)))))
            (λ lower.
            let lo = stayed (y -ℤ pos r) lower (omega (arith, ints, to)) in
            let at = stayed y (omega (arith, ints, lower)) (omega (arith, ints, to)) in
            let hi = stayed (y +ℤ pos k) (omega (arith, ints, lower)) to in
            let h = slopes K low cap G convex y r k some_r some_k from to in
            let behind : V y -ℤ V (y -ℤ pos r) ≡ G y -ℤ G (y -ℤ pos r) = omega (arith, ints, at, lo) in
            let before : pos K +ℤ V (y +ℤ pos k) -ℤ V y ≡ pos K +ℤ G (y +ℤ pos k) -ℤ G y = omega (arith, ints, at, hi) in
            omega (arith, ints, h, ap (λ z. pos k *ℤ z) behind, ap (λ z. pos r *ℤ z) before))
