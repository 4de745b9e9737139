-- A network of the joined host is that of the part at its place.
use Rattle.std.specs.Prelude.{◌≡◌, ◌≢◌, ◌⊎◌, ◌<◌, ◌∷◌, [], ℕ, zero, suc, Bool, length, List, Option, Some, None}
use Rattle.std.proofs.Common.{◌∙◌, refl, sym, ap, inl, inr, arith}
use Rattle.host_network.specs.Standing.{Machine}
use Rattle.line_request.specs.Outlines.{Outlined, waiting_at}
use Rattle.live_host.specs.Apart.{AreFrom, IsOrdered, alone}
use Rattle.live_host.specs.Hosts.{Live, live_at}
use Rattle.live_host.proofs.Alone.{same-alone}
use Rattle.live_shards.specs.Parts.{AreParts, joined, part_at, place_of}
use Rattle.live_shards.proofs.Both.{both-ascend, found-both, or_else}

-- ---- what is found in a list of hosts
-- what is found in the first of these hosts in which something is
abbrev pub found_in : {X : Type 0} → (Live → Option X) → List Live → Option X
found_in at [] = None
found_in at (l ∷ ls) = or_else (at l) (found_in at ls)

abbrev pub waits_in : ℕ → Live → Option Outlined
waits_in g l = waiting_at l.waiting g

abbrev pub runs_in : ℕ → Live → Option Machine
runs_in g l = live_at l g

pub waits-joined : (g : ℕ) (ls : List Live) → waiting_at (joined ls).waiting g ≡ found_in (waits_in g) ls
waits-joined g [] = refl
waits-joined g (l ∷ ls) =
    found-both g l.waiting (joined ls).waiting ∙ ap (or_else (waits_in g l)) (waits-joined g ls)

pub runs-joined : (g : ℕ) (ls : List Live) → live_at (joined ls) g ≡ found_in (runs_in g) ls
runs-joined g [] = refl
runs-joined g (l ∷ ls) =
    found-both g l.running (joined ls).running ∙ ap (or_else (runs_in g l)) (runs-joined g ls)

pub none-found : {X : Type 0} (at : Live → Option X) (bytes : Bool) (ls : List Live)
    → ((j : ℕ) → j < length ls → at (part_at bytes ls j) ≡ None) → found_in at ls ≡ None
none-found at bytes [] none = refl
none-found at bytes (l ∷ ls) none =
    ap (λ o. or_else o (found_in at ls)) (none 0 (omega arith))
    ∙ none-found at bytes ls (λ j below. none (suc j) (omega (arith, below)))

or-none : {X : Type 0} (o : Option X) → or_else o None ≡ o
or-none None = refl
or-none (Some x) = refl

pub found-at : {X : Type 0} (at : Live → Option X) (bytes : Bool) (ls : List Live) (k : ℕ) → k < length ls
    → ((j : ℕ) → j < length ls → j ≢ k → at (part_at bytes ls j) ≡ None) → found_in at ls ≡ at (part_at bytes ls k)
found-at at bytes [] k below none = absurd (omega (arith, below))
found-at at bytes (l ∷ ls) zero below none =
    ap (or_else (at l)) (none-found at bytes ls (λ j more. none (suc j) (omega (arith, more)) (omega arith)))
    ∙ or-none (at l)
found-at at bytes (l ∷ ls) (suc k) below none =
    ap (λ o. or_else o (found_in at ls)) (none 0 (omega arith) (omega arith))
    ∙ found-at at bytes ls k (omega (arith, below))
    (λ j more differ. none (suc j) (omega (arith, more)) (omega (arith, differ)))

-- ---- parts
pub place-below : (bytes : Bool) (parts : List Live) → AreParts bytes parts → (g : ℕ)
    → place_of (length parts) g < length parts
place-below bytes parts are g = let some = are.some in omega (arith, some)

pub waits-at-place : (bytes : Bool) (parts : List Live) → AreParts bytes parts → (g : ℕ)
    → waiting_at (joined parts).waiting g
    ≡ waiting_at (part_at bytes parts (place_of (length parts) g)).waiting g
waits-at-place bytes parts are g =
    waits-joined g parts
    ∙ found-at (waits_in g) bytes parts (place_of (length parts) g) (place-below bytes parts are g)
    (λ j below differ. ((are.each j below).own g (λ is. differ (sym is))).0)

pub runs-at-place : (bytes : Bool) (parts : List Live) → AreParts bytes parts → (g : ℕ)
    → live_at (joined parts) g ≡ live_at (part_at bytes parts (place_of (length parts) g)) g
runs-at-place bytes parts are g =
    runs-joined g parts
    ∙ found-at (runs_in g) bytes parts (place_of (length parts) g) (place-below bytes parts are g)
    (λ j below differ. ((are.each j below).own g (λ is. differ (sym is))).1)

joined-bytes : (bytes : Bool) (parts : List Live) → AreParts bytes parts → (joined parts).bytes ≡ bytes
joined-bytes bytes [] are = let some = are.some in absurd (omega (arith, some))
joined-bytes bytes (l ∷ ls) are = are.alike 0 are.some

pub alone-at-place : (bytes : Bool) (parts : List Live) → AreParts bytes parts → (g : ℕ)
    → alone g (joined parts) ≡ alone g (part_at bytes parts (place_of (length parts) g))
alone-at-place bytes parts are g =
    same-alone g (part_at bytes parts (place_of (length parts) g)) (joined parts)
    (joined-bytes bytes parts are ∙ sym (are.alike (place_of (length parts) g) (place-below bytes parts are g)))
    (waits-at-place bytes parts are g) (runs-at-place bytes parts are g)

-- ---- the order
waiting-ascend : (ls : List Live) → AreFrom 0 (joined ls).waiting
waiting-ascend [] = tt
waiting-ascend (l ∷ ls) = both-ascend l.waiting (joined ls).waiting (waiting-ascend ls)

running-ascend : (ls : List Live) → AreFrom 0 (joined ls).running
running-ascend [] = tt
running-ascend (l ∷ ls) = both-ascend l.running (joined ls).running (running-ascend ls)

pub joined-ordered : (bytes : Bool) (parts : List Live) → AreParts bytes parts → IsOrdered (joined parts)
joined-ordered bytes parts are = record {
  waiting = waiting-ascend parts;
  running = running-ascend parts;
  apart = λ g. by g ((are.each (place_of (length parts) g) (place-below bytes parts are g)).ordered.apart g);
}
  where
    by : (g : ℕ) → (waiting_at (part_at bytes parts (place_of (length parts) g)).waiting g ≡ None)
        ⊎ (live_at (part_at bytes parts (place_of (length parts) g)) g ≡ None)
        → (waiting_at (joined parts).waiting g ≡ None) ⊎ (live_at (joined parts) g ≡ None)
    by g (inl is) = inl (waits-at-place bytes parts are g ∙ is)
    by g (inr is) = inr (runs-at-place bytes parts are g ∙ is)
