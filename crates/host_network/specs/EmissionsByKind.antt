-- What a node has emitted, and where among it the emissions of a kind stand.
use Rattle.std.specs.Prelude.{◌≡◌, ℕ, zero, suc, List, [], ◌∷◌, filter, slice_get, Option, None, if◌then◌else◌}
use Rattle.scp_types.specs.declared.kind.Kind.{Kind}
use Rattle.scp_types.specs.declared.kind.Kind.TheVariants.{Nomination, Ballot}
use Rattle.scp_types.specs.Statements.{Sent, kind_of}
use Rattle.scp_spec.specs.Rows.{is_kind}
use Rattle.host_network.specs.declared.emission_log.PlacesByKind.{PlacesByKind}

-- the places, counted from this number, of the emissions of a kind
abbrev pub places_from : Kind → ℕ → List Sent → List ℕ
places_from kind n [] = []
places_from kind n (e ∷ es) =
    if is_kind kind (kind_of e.body) then n ∷ places_from kind (suc n) es else places_from kind (suc n) es

-- where the emissions of a kind stand among all that was emitted
abbrev pub places_of_kind : Kind → List Sent → List ℕ
places_of_kind kind emitted = places_from kind 0 emitted

-- the places of nominations and of ballots are where these stand among what was emitted
abbrev pub AreByKind : PlacesByKind → List Sent → Type 0
AreByKind places emitted =
    (places.nominations.items ≡ places_of_kind Nomination emitted)
    × (places.ballots.items ≡ places_of_kind Ballot emitted)

-- the emission of a kind with this number, from 1 on
abbrev pub nth_of : Kind → ℕ → List Sent → Option Sent
nth_of kind zero emitted = None
nth_of kind (suc k) emitted = slice_get (filter (λ e. is_kind kind (kind_of e.body)) emitted) k
