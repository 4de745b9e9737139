-- Each move keeps the balance.
use Rattle.std.proofs.Common.{◌≡◌, ◌≢◌, ℕ, zero, suc, ◌+◌, ◌-◌, ◌<◌, ◌≤◌, List, [], ◌∷◌, ◌++◌, length, set, refl, sym, ap, ◌∙◌, subst, ⊎_elim, arith, length-append}
use mathlib.Core.Option.{some, some-ne-none, some-injective}
use lib.ListN.{get_elem?}
use Rattle.crossbeam_queue.specs.Fifo.{Pushes, Pops, Forks, Merges, Learns, Held}
use Rattle.std.proofs.Common.{Result, Ok, Err, MatchResult, Option, Some, None, MatchOption}
use Rattle.atomic_table.proofs.Lists.{at_set, at_snoc}
use Rattle.pool_queue.specs.declared.rule.Hand.{Hand}
use Rattle.pool_queue.specs.declared.rule.Job.{Job}
use Rattle.pool_queue.specs.Hands.{weigh, hand, total, IdleIsEmpty, Balanced, MayHold, MayHaveMany, all_parts}

pub weigh-append : {X : Type 0} (f : X → ℕ) (xs ys : List X) → weigh f (xs ++ ys) ≡ weigh f xs + weigh f ys
weigh-append f [] ys = omega arith
weigh-append f (x ∷ xs) ys = let r = weigh-append f xs ys in omega arith

pub weigh-snoc : {X : Type 0} (f : X → ℕ) (xs : List X) (x : X) → weigh f (xs ++ x ∷ []) ≡ weigh f xs + f x
weigh-snoc f xs x = omega (arith, weigh-append f xs (x ∷ []))

-- the total after a change of one pass
pub total_set : (f : Hand → ℕ) (views : List Hand) (id : ℕ) (v w : Hand) → get_elem? views id ≡ some v → total f (set views id w) + f v ≡ total f views + f w
total_set f [] id v w e = absurd (some-ne-none v (sym e))
total_set f (x ∷ xs) zero v w e = let s : f x ≡ f v = ap f (some-injective x v e) in omega arith
total_set f (x ∷ xs) (suc id) v w e = let s = total_set f xs id v w e in omega arith

idle_set : (views : List Hand) (id : ℕ) (w : Hand) → (w.parts ≡ 0 → (w.put ≡ []) × (w.taken ≡ [])) → IdleIsEmpty views → IdleIsEmpty (set views id w)
idle_set views id w mine idle j u e none =
    ⊎_elim
    (λ (x : (j ≡ id) × (w ≡ u)). subst (λ (y : Hand). y.parts ≡ 0 → (y.put ≡ []) × (y.taken ≡ [])) x.1 mine none)
    (λ (x : (j ≢ id) × (get_elem? views j ≡ some u)). idle j u x.1 none)
    (at_set views id j w u e)

pub puts : (n id : ℕ) (v : Hand) (x : Job) → 0 < v.parts → Pushes Balanced n id v x (λ w. w ≡ hand v.parts (v.put ++ x ∷ []) v.taken)
puts n id v x some_part items views room b at =
    let w = hand v.parts (v.put ++ x ∷ []) v.taken in (
      w,
      (
        (let s = total_set (λ u. u.parts) views id v w at in let p = b.0 in omega arith),
        (λ h.
            let s = total_set (λ u. weigh h u.put) views id v w at in
            let t = total_set (λ u. weigh h u.taken) views id v w at in
            let p = b.1 h in
            omega (arith, weigh-append h v.put (x ∷ []), weigh-append h items (x ∷ []))),
        idle_set views id w (λ none. absurd (omega arith)) b.2,
      ),
      refl,
    )

pub takes : (id : ℕ) (v : Hand) → 0 < v.parts → Pops Balanced id v (λ x w. w ≡ hand v.parts v.put (v.taken ++ x ∷ []))
takes id v some_part x items views b at =
    let w = hand v.parts v.put (v.taken ++ x ∷ []) in (
      w,
      (
        (let s = total_set (λ u. u.parts) views id v w at in let p = b.0 in omega arith),
        (λ h.
            let s = total_set (λ u. weigh h u.put) views id v w at in
            let t = total_set (λ u. weigh h u.taken) views id v w at in
            let p = b.1 h in
            omega (arith, weigh-append h v.taken (x ∷ []))),
        idle_set views id w (λ none. absurd (omega arith)) b.2,
      ),
      refl,
    )

pub may_hold : (id : ℕ) (v : Hand) → Learns Balanced id v (MayHold v)
may_hold id v items views b at = (views, id, at, b)

pub forks : (id : ℕ) (v : Hand) → 1 < v.parts → Forks Balanced id v (hand (v.parts - 1) v.put v.taken) (hand 1 [] [])
forks id v many items views b at =
    let w = hand (v.parts - 1) v.put v.taken in
    let new = hand 1 [] [] in
    let vs : List Hand = set views id w in (
      (let s = total_set (λ u. u.parts) views id v w at in let p = b.0 in omega (arith, weigh-snoc (λ (u : Hand). u.parts) vs new)),
      (λ h.
          let s = total_set (λ u. weigh h u.put) views id v w at in
          let t = total_set (λ u. weigh h u.taken) views id v w at in
          let p = b.1 h in
          omega (arith, weigh-snoc (λ (u : Hand). weigh h u.put) vs new, weigh-snoc (λ (u : Hand). weigh h u.taken) vs new)),
      (λ j u e none. ⊎_elim (λ was. idle_set views id w (λ no. absurd (omega arith)) b.2 j u was none) (λ (is : new ≡ u). let one : 1 ≡ u.parts = ap (λ (y : Hand). y.parts) is in absurd (omega arith)) (at_snoc vs new u j e)),
    )

pub merges : (id : ℕ) (v : Hand) (other : ℕ) (u : Hand) → 0 < v.parts → Merges Balanced id v other u (hand (v.parts + u.parts) (v.put ++ u.put) (v.taken ++ u.taken)) (hand 0 [] [])
merges id v other u some_part items views b at apart there =
    let w = hand (v.parts + u.parts) (v.put ++ u.put) (v.taken ++ u.taken) in
    let spent = hand 0 [] [] in
    let vs : List Hand = set views id w in (
      (let s = total_set (λ y. y.parts) views id v w at in let t = total_set (λ y. y.parts) vs other u spent there in let p = b.0 in omega arith),
      (λ h.
          let s = total_set (λ y. weigh h y.put) views id v w at in
          let s' = total_set (λ y. weigh h y.put) vs other u spent there in
          let t = total_set (λ y. weigh h y.taken) views id v w at in
          let t' = total_set (λ y. weigh h y.taken) vs other u spent there in
          let p = b.1 h in
          omega (arith, weigh-append h v.put u.put, weigh-append h v.taken u.taken)),
      idle_set vs other spent (λ _. (refl, refl)) (idle_set views id w (λ no. absurd (omega arith)) b.2),
    )

-- where no other pass has a part, a weight that is 0 of passes with none is this pass's
none_at_all : (f : Hand → ℕ) (views : List Hand) → total (λ v. v.parts) views ≡ 0 → ((id : ℕ) (v : Hand) → get_elem? views id ≡ some v → v.parts ≡ 0 → f v ≡ 0) → total f views ≡ 0
none_at_all f [] zeros idle = refl
none_at_all f (x ∷ xs) zeros idle =
    let here : f x ≡ 0 = idle 0 x refl (omega arith) in
    let rest = none_at_all f xs (omega arith) (λ id v e. idle (suc id) v e) in omega arith

alone : (f : Hand → ℕ) (views : List Hand) (id : ℕ) (v : Hand) → get_elem? views id ≡ some v → total (λ u. u.parts) views ≡ v.parts → ((j : ℕ) (u : Hand) → get_elem? views j ≡ some u → u.parts ≡ 0 → f u ≡ 0) → total f views ≡ f v
alone f [] id v e whole idle = absurd (some-ne-none v (sym e))
alone f (x ∷ xs) zero v e whole idle =
    let is : x ≡ v = some-injective x v e in
    let p : x.parts ≡ v.parts = ap (λ (u : Hand). u.parts) is in
    let q : f x ≡ f v = ap f is in
    let rest = none_at_all f xs (omega arith) (λ j u at. idle (suc j) u at) in omega arith
alone f (x ∷ xs) (suc id) v e whole idle =
    let some_part = part_of xs id v e in
    let here : f x ≡ 0 = idle 0 x refl (omega arith) in
    let rest = alone f xs id v e (omega arith) (λ j u at. idle (suc j) u at) in omega arith
  where
    part_of : (l : List Hand) (k : ℕ) (u : Hand) → get_elem? l k ≡ some u → u.parts ≤ total (λ y. y.parts) l
    part_of [] k u at = absurd (some-ne-none u (sym at))
    part_of (y ∷ ys) zero u at = let s : y.parts ≡ u.parts = ap (λ (z : Hand). z.parts) (some-injective y u at) in omega arith
    part_of (y ∷ ys) (suc k) u at = let s = part_of ys k u at in omega arith

-- who has every part knows the whole
pub whole : (id : ℕ) (v : Hand) (items : List Job) (views : List Hand) → v.parts ≡ all_parts → get_elem? views id ≡ some v → Balanced items views → (h : Job → ℕ) → weigh h v.put ≡ weigh h v.taken + weigh h items
whole id v items views all at b h =
    let p = b.0 in
    let one = alone (λ u. weigh h u.put) views id v at (p ∙ sym all) (λ j u e none. ap (weigh h) (b.2 j u e none).0) in
    let two = alone (λ u. weigh h u.taken) views id v at (p ∙ sym all) (λ j u e none. ap (weigh h) (b.2 j u e none).1) in
    let q = b.1 h in omega arith

pub ones : {X : Type 0} (l : List X) → weigh (λ _. 1) l ≡ length l
ones [] = refl
ones (x ∷ xs) = let r = ones xs in omega arith

pub as_many : (n : ℕ) (v : Hand) → v.parts ≡ all_parts → MayHaveMany n v → length v.put ≡ length v.taken + n
as_many n v all m =
    let items : List Job = m.0 in
    let len : length items ≡ n = m.1 in
    let h = m.2 in
    let w = whole h.1 v items h.0 all h.2 h.3 (λ _. 1) in
    omega (arith, ones v.put, ones v.taken, ones items)

-- a refused put of the only pass
pub refused_alone : (n m : ℕ) (v w : Hand) (x : Job) → m ≡ n → v.parts ≡ all_parts → (P : Unit {0} → Type 0) (r : Result (Unit {0}) Job)
    → MatchResult r P (λ y. (y ≡ x) × (w ≡ v) × Held m (MayHold v))
    → MatchResult r (λ _. Unit {0}) (λ _. length v.put ≡ length v.taken + n)
refused_alone n m v w x same all P (Ok u) h = tt
refused_alone n m v w x same all P (Err y) h = as_many n v all (subst (λ (k : ℕ). Held k (MayHold v)) same h.2)

pub empty_alone : (v w : Hand) → v.parts ≡ all_parts → (P : Job → Type 0) (r : Option Job)
    → MatchOption r ((w ≡ v) × Held 0 (MayHold v)) P
    → MatchOption r (length v.put ≡ length v.taken) (λ _. Unit {0})
empty_alone v w all P None h = let e = as_many 0 v all h.1 in omega arith
empty_alone v w all P (Some y) h = tt

weigh-none : (h : Job → ℕ) (l : List Job) → length l ≡ 0 → weigh h l ≡ 0
weigh-none h [] none = refl
weigh-none h (x ∷ xs) none = absurd (omega arith)

-- where the one pass has taken all that there was, what was put is what was taken
pub drained : (old now : Hand) (items room : List Job) (many k : ℕ) → now.parts ≡ all_parts → now.put ≡ old.put → now.taken ≡ old.taken ++ room → length room ≡ k → many ≤ k
    → length old.put ≡ length old.taken + many → MayHold now items → (h : Job → ℕ) → weigh h old.put ≡ weigh h old.taken + weigh h room
drained old now items room many k all put taken len le had held h =
    let w = whole held.1 now items held.0 all held.2 held.3 in
    let ones_put = ones now.put in
    let ones_taken = ones now.taken in
    let as_put : length now.put ≡ length old.put = ap (λ (l : List Job). length l) put in
    let as_taken : length now.taken ≡ length old.taken + length room = ap (λ (l : List Job). length l) taken ∙ length-append old.taken room in
    let one = w (λ _. 1) in
    let none = weigh-none h items (omega (arith, ones items)) in
    let p : weigh h now.put ≡ weigh h old.put = ap (weigh h) put in
    let t : weigh h now.taken ≡ weigh h old.taken + weigh h room = ap (weigh h) taken ∙ weigh-append h old.taken room in
    let two = w h in omega arith

-- a queue that answers that it is empty has been taken empty
pub not_yet : (old now : Hand) (room : List Job) (many k : ℕ) → now.parts ≡ all_parts → now.put ≡ old.put → now.taken ≡ old.taken ++ room → length room ≡ k → k < many
    → length old.put ≡ length old.taken + many → ¬ MayHaveMany 0 now
not_yet old now room many k all put taken len less had held =
    let m = as_many 0 now all held in
    let as_put : length now.put ≡ length old.put = ap (λ (l : List Job). length l) put in
    let as_taken : length now.taken ≡ length old.taken + length room = ap (λ (l : List Job). length l) taken ∙ length-append old.taken room in
    absurd (omega arith)
