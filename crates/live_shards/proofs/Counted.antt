-- The joined host has as many networks as its parts together.
use Rattle.std.specs.Prelude.{◌≡◌, ◌≢◌, ◌⊎◌, ◌+◌, ◌<◌, ◌==◌, ◌∷◌, [], ℕ, suc, Bool, true, false, length, List, Option, None}
use Rattle.std.proofs.Common.{◌∙◌, refl, sym, subst, inl, inr, arith, true≢false}
use Rattle.std.proofs.lemmas.Bool.Decides.{Decides-eqb}
use Rattle.line_request.specs.Outlines.{waiting_at}
use Rattle.live_host.specs.Apart.{IsOrdered}
use Rattle.live_host.specs.Hosts.{Live, live_at}
use Rattle.live_shards.specs.Parts.{JoinedHostsHaveAllNetworks, joined, networks_of, networks_of_all, part_at, place_of}
use Rattle.live_shards.proofs.Both.{both-count}
use Rattle.live_shards.proofs.Joined.{found_in, none-found, runs-joined, runs_in, waits-joined, waits_in}

-- ---- each network is in one host
-- what is found in a host is in none behind it
abbrev AreApart : {X : Type 0} → (ℕ → Live → Option X) → List Live → Type 0
AreApart at [] = Unit {0}
AreApart at (l ∷ ls) = ((g : ℕ) → (at g l ≡ None) ⊎ (found_in (at g) ls ≡ None)) × AreApart at ls

-- these are the hosts from a place on, and each has networks of its place alone
abbrev AreOwn : {X : Type 0} → (ℕ → Live → Option X) → Bool → ℕ → ℕ → List Live → Type 0
AreOwn at bytes count base ls =
    (j : ℕ) → j < length ls → (g : ℕ) → place_of count g ≢ base + j → at g (part_at bytes ls j) ≡ None

own-apart : {X : Type 0} (at : ℕ → Live → Option X) (bytes : Bool) (count base : ℕ) (ls : List Live)
    → AreOwn at bytes count base ls → AreApart at ls
own-apart at bytes count base [] own = tt
own-apart {X} at bytes count base (l ∷ ls) own = (
  λ g. by g (place_of count g == base) refl,
  own-apart at bytes count (base + 1) ls
      (λ j below g differ. own (suc j) (omega (arith, below)) g (omega (arith, differ))),
)
  where
    by : (g : ℕ) (here : Bool) → (place_of count g == base) ≡ here → (at g l ≡ None) ⊎ (found_in (at g) ls ≡ None)
    by g true is =
        let at_base : place_of count g ≡ base = (Decides-eqb (place_of count g) base).0 is in
        inr (none-found (at g) bytes ls (λ j below. own (suc j) (omega (arith, below)) g (omega (arith, at_base))))
    by g false is =
        let differ : place_of count g ≢ base =
        λ same. true≢false (sym ((Decides-eqb (place_of count g) base).1 same) ∙ is) in
        inl (own 0 (omega arith) g (omega (arith, differ)))

-- ---- sums
all-counted : (bytes : Bool) (ls : List Live) → ((j : ℕ) → j < length ls → IsOrdered (part_at bytes ls j))
    → AreApart waits_in ls → AreApart runs_in ls → networks_of (joined ls) ≡ networks_of_all ls
all-counted bytes [] ordered waits runs = refl
all-counted bytes (l ∷ ls) ordered waits runs =
    let rest = all-counted bytes ls (λ j below. ordered (suc j) (omega (arith, below))) waits.1 runs.1 in
    let waiting =
    both-count 0 l.waiting (joined ls).waiting (ordered 0 (omega arith)).waiting
    (λ g. subst (λ o. (waiting_at l.waiting g ≡ None) ⊎ (o ≡ None)) (sym (waits-joined g ls)) (waits.0 g)) in
    let running =
    both-count 0 l.running (joined ls).running (ordered 0 (omega arith)).running
    (λ g. subst (λ o. (live_at l g ≡ None) ⊎ (o ≡ None)) (sym (runs-joined g ls)) (runs.0 g)) in
    omega (arith, rest, waiting, running)

pub joined_hosts_have_all_networks : JoinedHostsHaveAllNetworks
joined_hosts_have_all_networks bytes parts are =
    all-counted bytes parts (λ j below. (are.each j below).ordered)
    (own-apart waits_in bytes (length parts) 0 parts
    (λ j below g differ. ((are.each j below).own g (omega (arith, differ))).0))
    (own-apart runs_in bytes (length parts) 0 parts
    (λ j below g differ. ((are.each j below).own g (omega (arith, differ))).1))
