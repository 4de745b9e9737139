-- What is found among tallies, and what one that is changed or new adds.
use Rattle.std.proofs.Common.{◌≡◌, ℕ, zero, suc, ◌+◌, Bool, true, false, ◌==◌, get_or, set, List, [], ◌∷◌, Option, Some, None, option_map, if◌then◌else◌, refl, sym, ◌∙◌, ap, ap₂, subst, arith}
use Rattle.std.specs.List.{insert}
use Rattle.std.proofs.lemmas.Bool.{eqb-true}
use Rattle.host_config.specs.Configs.{index_in}
use Rattle.host_network.specs.FiledSlots.{bytes_from, events_from}
use Rattle.host_network.specs.TallyBooks.{tallied_names}
use Rattle.host_network.specs.declared.tallies.Tally.{Tally}
use Rattle.host_network.proofs.Indexes.{another}

-- ---- what is counted
abbrev from_by : (Tally → ℕ) → List Tally → ℕ → ℕ
from_by val [] u = 0
from_by val (t ∷ ts) u = if t.from == u then val t else from_by val ts u

events-by : (ts : List Tally) (u : ℕ) → events_from ts u ≡ from_by (λ t. t.events) ts u
events-by [] u = refl
events-by (t ∷ ts) u = ap (λ r. if t.from == u then t.events else r) (events-by ts u)

bytes-by : (ts : List Tally) (u : ℕ) → bytes_from ts u ≡ from_by (λ t. t.bytes) ts u
bytes-by [] u = refl
bytes-by (t ∷ ts) u = ap (λ r. if t.from == u then t.bytes else r) (bytes-by ts u)

first-more : (val : Tally → ℕ) (n : ℕ) (t : Tally) (ts : List Tally) (w : ℕ) (x y : Tally) (u : ℕ) → x ≡ t → t.from ≡ w → y.from ≡ x.from → val y ≡ val x + n
    → (if y.from == u then val y else from_by val ts u) ≡ (if t.from == u then val t else from_by val ts u) + (if w == u then n else 0)
first-more val n t ts w x y u is q f v =
    let a : y.from ≡ w = f ∙ ap (λ (s : Tally). s.from) is ∙ q in
    let b : val y ≡ val t + n = v ∙ ap (λ s. val s + n) is in
    ap₂ (λ m k. if m == u then k else from_by val ts u) a b ∙ go (w == u) ∙ sym (ap (λ m. (if m == u then val t else from_by val ts u) + (if w == u then n else 0)) q)
  where
    go : (b : Bool) → (if b then val t + n else from_by val ts u) ≡ (if b then val t else from_by val ts u) + (if b then n else 0)
    go true = refl
    go false = omega arith

rest-more : (a w u v n A B : ℕ) → (a == w) ≡ false → A ≡ B + (if w == u then n else 0) → (if a == u then v else A) ≡ (if a == u then v else B) + (if w == u then n else 0)
rest-more a w u v n A B h is = go (a == u) refl
  where
    go : (c : Bool) → (a == u) ≡ c → (if c then v else A) ≡ (if c then v else B) + (if w == u then n else 0)
    go true q = let z : (if w == u then n else 0) ≡ 0 = ap (λ b. if b then n else 0) (another a w u h q) in omega (arith, z)
    go false q = is

from-set : (val : Tally → ℕ) (n : ℕ) (ts : List Tally) (w at : ℕ) (x y : Tally) (u : ℕ) → index_in (tallied_names ts) w ≡ Some at → x ≡ get_or ts at x → y.from ≡ x.from → val y ≡ val x + n
    → from_by val (set ts at y) u ≡ from_by val ts u + (if w == u then n else 0)
from-set val n [] w at x y u h is f v = absurd (cc)
from-set val n (t ∷ ts) w at x y u h is f v = go (t.from == w) (index_in (tallied_names ts) w) (λ j e g. from-set val n ts w j x y u e g f v) refl refl h
  where
    go : (b : Bool) (o : Option ℕ) → ((j : ℕ) → index_in (tallied_names ts) w ≡ Some j → x ≡ get_or ts j x → from_by val (set ts j y) u ≡ from_by val ts u + (if w == u then n else 0))
        → (t.from == w) ≡ b → index_in (tallied_names ts) w ≡ o → (if b then Some 0 else option_map suc o) ≡ Some at → from_by val (set (t ∷ ts) at y) u ≡ from_by val (t ∷ ts) u + (if w == u then n else 0)
    go true o ih q e p = let z : 0 ≡ at = cc in subst (λ k. x ≡ get_or (t ∷ ts) k x → from_by val (set (t ∷ ts) k y) u ≡ from_by val (t ∷ ts) u + (if w == u then n else 0)) z (λ g. first-more val n t ts w x y u g (eqb-true t.from w q) f v) is
    go false None ih q e p = absurd (cc)
    go false (Some j) ih q e p =
        let z : suc j ≡ at = cc in
        subst (λ k. x ≡ get_or (t ∷ ts) k x → from_by val (set (t ∷ ts) k y) u ≡ from_by val (t ∷ ts) u + (if w == u then n else 0)) z
        (λ g. rest-more t.from w u (val t) n (from_by val (set ts j y) u) (from_by val ts u) q (ih j e g)) is

-- a name that has no tally drew nothing
first-none : (val : Tally → ℕ) (ts : List Tally) (w : ℕ) → index_in (tallied_names ts) w ≡ None → from_by val ts w ≡ 0
first-none val [] w h = refl
first-none val (t ∷ ts) w h = go (t.from == w) (index_in (tallied_names ts) w) (λ e. first-none val ts w e) refl h
  where
    go : (b : Bool) (o : Option ℕ) → (index_in (tallied_names ts) w ≡ None → from_by val ts w ≡ 0) → index_in (tallied_names ts) w ≡ o → (if b then Some 0 else option_map suc o) ≡ None → (if b then val t else from_by val ts w) ≡ 0
    go true o ih e p = absurd (cc)
    go false None ih e p = ih e
    go false (Some j) ih e p = absurd (cc)

-- a tally that is put before others, of a name that none of them has
front-more : (val : Tally → ℕ) (n : ℕ) (ts : List Tally) (w : ℕ) (y : Tally) (u : ℕ) → index_in (tallied_names ts) w ≡ None → y.from ≡ w → val y ≡ n → from_by val (y ∷ ts) u ≡ from_by val ts u + (if w == u then n else 0)
front-more val n ts w y u h f v = ap₂ (λ m k. if m == u then k else from_by val ts u) f v ∙ go (w == u) (λ e. ap (from_by val ts) (sym (eqb-true w u e)) ∙ first-none val ts w h) refl
  where
    go : (b : Bool) → ((w == u) ≡ true → from_by val ts u ≡ 0) → (w == u) ≡ b → (if b then n else from_by val ts u) ≡ from_by val ts u + (if b then n else 0)
    go true z e = let q = z e in omega (arith, q)
    go false z e = omega arith

from-insert : (val : Tally → ℕ) (n : ℕ) (ts : List Tally) (w at : ℕ) (y : Tally) (u : ℕ) → index_in (tallied_names ts) w ≡ None → y.from ≡ w → val y ≡ n → from_by val (insert ts at y) u ≡ from_by val ts u + (if w == u then n else 0)
from-insert val n ts w zero y u h f v = front-more val n ts w y u h f v
from-insert val n [] w (suc at) y u h f v = front-more val n [] w y u h f v
from-insert val n (t ∷ ts) w (suc at) y u h f v = go (t.from == w) (index_in (tallied_names ts) w) (λ e. from-insert val n ts w at y u e f v) refl refl h
  where
    go : (b : Bool) (o : Option ℕ) → (index_in (tallied_names ts) w ≡ None → from_by val (insert ts at y) u ≡ from_by val ts u + (if w == u then n else 0))
        → (t.from == w) ≡ b → index_in (tallied_names ts) w ≡ o → (if b then Some 0 else option_map suc o) ≡ None → from_by val (insert (t ∷ ts) (suc at) y) u ≡ from_by val (t ∷ ts) u + (if w == u then n else 0)
    go true o ih q e p = absurd (cc)
    go false None ih q e p = rest-more t.from w u (val t) n (from_by val (insert ts at y) u) (from_by val ts u) q (ih e)
    go false (Some j) ih q e p = absurd (cc)

-- a tally that is changed, and one that is new
pub events-set : (ts : List Tally) (w at : ℕ) (x y : Tally) → index_in (tallied_names ts) w ≡ Some at → x ≡ get_or ts at x → y.from ≡ x.from → y.events ≡ x.events + 1 → (u : ℕ) → events_from (set ts at y) u ≡ events_from ts u + (if w == u then 1 else 0)
events-set ts w at x y h is f v u = events-by (set ts at y) u ∙ from-set (λ t. t.events) 1 ts w at x y u h is f v ∙ sym (ap (λ m. m + (if w == u then 1 else 0)) (events-by ts u))

pub bytes-set : (n : ℕ) (ts : List Tally) (w at : ℕ) (x y : Tally) → index_in (tallied_names ts) w ≡ Some at → x ≡ get_or ts at x → y.from ≡ x.from → y.bytes ≡ x.bytes + n → (u : ℕ) → bytes_from (set ts at y) u ≡ bytes_from ts u + (if w == u then n else 0)
bytes-set n ts w at x y h is f v u = bytes-by (set ts at y) u ∙ from-set (λ t. t.bytes) n ts w at x y u h is f v ∙ sym (ap (λ m. m + (if w == u then n else 0)) (bytes-by ts u))

pub events-insert : (ts : List Tally) (w at : ℕ) (y : Tally) → index_in (tallied_names ts) w ≡ None → y.from ≡ w → y.events ≡ 1 → (u : ℕ) → events_from (insert ts at y) u ≡ events_from ts u + (if w == u then 1 else 0)
events-insert ts w at y h f v u = events-by (insert ts at y) u ∙ from-insert (λ t. t.events) 1 ts w at y u h f v ∙ sym (ap (λ m. m + (if w == u then 1 else 0)) (events-by ts u))

pub bytes-insert : (n : ℕ) (ts : List Tally) (w at : ℕ) (y : Tally) → index_in (tallied_names ts) w ≡ None → y.from ≡ w → y.bytes ≡ n → (u : ℕ) → bytes_from (insert ts at y) u ≡ bytes_from ts u + (if w == u then n else 0)
bytes-insert n ts w at y h f v u = bytes-by (insert ts at y) u ∙ from-insert (λ t. t.bytes) n ts w at y u h f v ∙ sym (ap (λ m. m + (if w == u then n else 0)) (bytes-by ts u))

-- the tally of a name has what was drawn from it
first-has : (val : Tally → ℕ) (ts : List Tally) (w at : ℕ) (x : Tally) → index_in (tallied_names ts) w ≡ Some at → x ≡ get_or ts at x → from_by val ts w ≡ val x
first-has val [] w at x h is = absurd (cc)
first-has val (t ∷ ts) w at x h is = go (t.from == w) (index_in (tallied_names ts) w) (λ j e g. first-has val ts w j x e g) refl h
  where
    go : (b : Bool) (o : Option ℕ) → ((j : ℕ) → index_in (tallied_names ts) w ≡ Some j → x ≡ get_or ts j x → from_by val ts w ≡ val x) → index_in (tallied_names ts) w ≡ o → (if b then Some 0 else option_map suc o) ≡ Some at → (if b then val t else from_by val ts w) ≡ val x
    go true o ih e p = let z : 0 ≡ at = cc in subst (λ k. x ≡ get_or (t ∷ ts) k x → val t ≡ val x) z (λ g. sym (ap val g)) is
    go false None ih e p = absurd (cc)
    go false (Some j) ih e p = let z : suc j ≡ at = cc in subst (λ k. x ≡ get_or (t ∷ ts) k x → from_by val ts w ≡ val x) z (λ g. ih j e g) is

pub events-has : (ts : List Tally) (w at : ℕ) (x : Tally) → index_in (tallied_names ts) w ≡ Some at → x ≡ get_or ts at x → events_from ts w ≡ x.events
events-has ts w at x h is = events-by ts w ∙ first-has (λ t. t.events) ts w at x h is

pub bytes-has : (ts : List Tally) (w at : ℕ) (x : Tally) → index_in (tallied_names ts) w ≡ Some at → x ≡ get_or ts at x → bytes_from ts w ≡ x.bytes
bytes-has ts w at x h is = bytes-by ts w ∙ first-has (λ t. t.bytes) ts w at x h is

pub events-none : (ts : List Tally) (w : ℕ) → index_in (tallied_names ts) w ≡ None → events_from ts w ≡ 0
events-none ts w h = events-by ts w ∙ first-none (λ t. t.events) ts w h

pub bytes-none : (ts : List Tally) (w : ℕ) → index_in (tallied_names ts) w ≡ None → bytes_from ts w ≡ 0
bytes-none ts w h = bytes-by ts w ∙ first-none (λ t. t.bytes) ts w h
