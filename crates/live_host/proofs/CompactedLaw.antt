-- The shorter journal, of the lines that last, leads to a host that is alike the one to which the whole journal led.
use Rattle.std.specs.Prelude.{◌≡◌, ◌≢◌, ◌&&◌, ◌||◌, ◌==◌, ◌++◌, ◌∷◌, [], not, map, filter, cond, nat_lt, length, ℕ, Bool, true, false, List, Option, Some, None}
use Rattle.std.proofs.Common.{◌∙◌, refl, sym, ap, subst, arith, true≢false}
use Rattle.std.proofs.lemmas.Bool.Decides.{Decides-eqb}
use Rattle.scp_spec.specs.Sets.{among}
use Rattle.line_script.specs.Script.{Bytes}
use Rattle.live_feed.specs.Lasting.{Declaration, Lines, NetworkLines, entry_at}
use Rattle.line_request.specs.Outlines.{waiting_at}
use Rattle.live_host.specs.Compacted.{AppliedLine, AreLinesKnown, AreLinesNoted, DeclarationsAreSmall, IsShortened, NamingLinesBegin, ShorterJournalsLeadToAlikeHosts, applied_tag, declarations_of, declared_tag, naming_line, naming_tags, of_network, short_tags}
use Rattle.live_host.specs.Hosts.{Live, live_at}
use Rattle.live_host.specs.Merging.{AreBothAlike, AreLinesOf, all_lines, lines_for}
use Rattle.live_host.proofs.Alone.{found-alone}
use Rattle.live_host.proofs.ApartRuns.{reached_hosts_are_ordered}
use Rattle.live_host.proofs.CompactedEnd.{declarations_may_be_lowered, each-shortened}
use Rattle.live_host.proofs.CompactedHosts.{reached-is-known}
use Rattle.live_host.proofs.CompactedLists.{not-at}
use Rattle.live_host.proofs.CompactedNoted.{itself}
use Rattle.live_host.proofs.CompactedShort.{shorter-lines}
use Rattle.live_host.proofs.CompactedSteps.{networks_are_made}
use Rattle.live_host.proofs.MergedHosts.{hosts_are_alike_by_parts}
use Rattle.live_host.proofs.MergedLines.{lines_may_be_merged}

-- ---- the networks of the lines
abbrev names_in : List (ℕ × NetworkLines) → List ℕ
names_in networks = map (λ e. e.0) networks

names-count : (networks : List (ℕ × NetworkLines)) → length (names_in networks) ≡ length networks
names-count [] = refl
names-count (e ∷ networks) = let rest = names-count networks in omega (arith, rest)

is-among : (networks : List (ℕ × NetworkLines)) (g : ℕ) (net : NetworkLines) → entry_at networks g ≡ Some net
    → among (names_in networks) g ≡ true
is-among [] g net is = absurd (cc)
is-among (e ∷ networks) g net is = by (e.0 == g) refl (is-among networks g net)
  where
    by : (b : Bool) → (e.0 == g) ≡ b → (entry_at networks g ≡ Some net → among (names_in networks) g ≡ true)
        → among (names_in (e ∷ networks)) g ≡ true
    by true same others = ap (λ b. b || among (names_in networks) g) same
    by false apart others =
        let differ : g ≢ e.0 = λ same. true≢false (sym ((Decides-eqb e.0 g).1 (sym same)) ∙ apart) in
        ap (λ b. b || among (names_in networks) g) apart
        ∙ others (sym (ap (λ b. cond b (Some e.1) (entry_at networks g)) (not-at g e.0 differ)) ∙ is)

of-both : (names : List ℕ) (es fs : List (ℕ × Bytes)) → AreLinesOf names es → AreLinesOf names fs → AreLinesOf names (es ++ fs)
of-both names [] fs one two = two
of-both names (e ∷ es) fs one two = (one.0, of-both names es fs one.1 two)

-- what passes a test of some network is of one that is known
abbrev AreKnown : {X : Type 0} → List (ℕ × NetworkLines) → (X → ℕ) → List X → Type 0
AreKnown networks network xs = (g : ℕ) → entry_at networks g ≡ None → filter (λ x. network x == g) xs ≡ []

head-known : {X : Type 0} (networks : List (ℕ × NetworkLines)) (network : X → ℕ) (x : X) (xs : List X)
    → AreKnown networks network (x ∷ xs) → among (names_in networks) (network x) ≡ true
head-known {X} networks network x xs known = by (entry_at networks (network x)) refl
  where
    never : (b : Bool) → b ≡ true
        → cond b (x ∷ filter (λ y. network y == network x) xs) (filter (λ y. network y == network x) xs) ≡ [] → ⊥
    never true is none = cc
    never false is none = true≢false (sym is)

    by : (o : Option NetworkLines) → entry_at networks (network x) ≡ o → among (names_in networks) (network x) ≡ true
    by None is = absurd (never (network x == network x) (itself (network x)) (known (network x) is))
    by (Some net) is = is-among networks (network x) net is

tail-known : {X : Type 0} (networks : List (ℕ × NetworkLines)) (network : X → ℕ) (x : X) (xs : List X)
    → AreKnown networks network (x ∷ xs) → AreKnown networks network xs
tail-known {X} networks network x xs known g is = by (network x == g) (known g is)
  where
    by : (b : Bool) → cond b (x ∷ filter (λ y. network y == g) xs) (filter (λ y. network y == g) xs) ≡ []
        → filter (λ y. network y == g) xs ≡ []
    by true none = absurd (cc)
    by false none = none

declared-of : (networks : List (ℕ × NetworkLines)) (ds : List (ℕ × Declaration))
    → AreKnown networks (λ (e : ℕ × Declaration). e.1.network) ds
    → AreLinesOf (names_in networks) (map (declared_tag networks) ds)
declared-of networks [] known = tt
declared-of networks (e ∷ ds) known = (
  head-known networks (λ (e : ℕ × Declaration). e.1.network) e ds known,
  declared-of networks ds (tail-known networks (λ (e : ℕ × Declaration). e.1.network) e ds known),
)

applied-of : (networks : List (ℕ × NetworkLines)) (es : List AppliedLine)
    → AreKnown networks (λ (e : AppliedLine). e.network) es → AreLinesOf (names_in networks) (map applied_tag es)
applied-of networks [] known = tt
applied-of networks (e ∷ es) known = (
  head-known networks (λ (e : AppliedLine). e.network) e es known,
  applied-of networks es (tail-known networks (λ (e : AppliedLine). e.network) e es known),
)

more-names : (names : List ℕ) (g : ℕ) (es : List (ℕ × Bytes)) → AreLinesOf names es → AreLinesOf (g ∷ names) es
more-names names g [] are = tt
more-names names g (e ∷ es) are = (by (g == e.0) are.0, more-names names g es are.1)
  where
    by : (b : Bool) → among names e.0 ≡ true → (b || among names e.0) ≡ true
    by true is = refl
    by false is = is

naming-of : (networks : List (ℕ × NetworkLines)) → AreLinesOf (names_in networks) (naming_tags networks)
naming-of [] = tt
naming-of (e ∷ networks) =
    by (e.1.is_named && not (nat_lt 0 (length e.1.slots)))
    (more-names (names_in networks) e.0 (naming_tags networks) (naming-of networks))
  where
    by : (b : Bool) → AreLinesOf (names_in (e ∷ networks)) (naming_tags networks)
        → AreLinesOf (names_in (e ∷ networks)) (cond b ((e.0, naming_line e.0) ∷ naming_tags networks) (naming_tags networks))
    by true others = (ap (λ b. b || among (names_in networks) e.0) (itself e.0), others)
    by false others = others

tags-of : (longest : ℕ) (bytes : Bool) (n : ℕ) (l : Live) (lines : Lines) (known : AreLinesKnown longest bytes n l lines)
    → AreLinesOf (names_in lines.networks) (short_tags lines known.applied)
tags-of longest bytes n l lines known =
    of-both (names_in lines.networks) (map (declared_tag lines.networks) lines.lasting.declarations)
    (naming_tags lines.networks ++ map applied_tag known.applied)
    (declared-of lines.networks lines.lasting.declarations
    (λ g is. (subst (λ o. AreLinesNoted o (declarations_of g lines.lasting.declarations) (of_network g known.applied)) is
    (known.noted g)).0))
    (of-both (names_in lines.networks) (naming_tags lines.networks) (map applied_tag known.applied)
    (naming-of lines.networks)
    (applied-of lines.networks known.applied
    (λ g is. (subst (λ o. AreLinesNoted o (declarations_of g lines.lasting.declarations) (of_network g known.applied)) is
    (known.noted g)).1)))

-- ---- the law
pub shorter-from : DeclarationsAreSmall → NamingLinesBegin → ShorterJournalsLeadToAlikeHosts
shorter-from are_small names longest long bytes lines journal text w serves =
    let reached = reached-is-known (networks_are_made are_small) longest bytes 1 lines journal text w serves in
    let known = reached.1 in
    let short : (g : ℕ) → IsShortened longest bytes g w.server (lines_for g (short_tags w.lines known.applied)) = λ g. each-shortened declarations_may_be_lowered names longest long bytes reached.0 w.server w.lines known g in
    let count = names-count w.lines.networks in
    let few = known.few in
    let merged =
    lines_may_be_merged longest bytes 1 (short_tags w.lines known.applied) (names_in w.lines.networks) (λ g. (short g).0)
    (tags-of longest bytes reached.0 w.server w.lines known) (omega (arith, count, few)) (λ g. (short g).1) in
    let ordered = reached_hosts_are_ordered longest bytes 1 (all_lines (short_tags w.lines known.applied))
    (all_lines (short_tags w.lines known.applied)) merged.0 merged.1 merged.2 in (
      all_lines (short_tags w.lines known.applied),
      merged.0,
      merged.1,
      shorter-lines w.lines known.applied known.events,
      merged.2,
      hosts_are_alike_by_parts w.server merged.1 known.ordered ordered
          (ap (λ l. l.bytes) (merged.3 0) ∙ (short 0).2 ∙ sym known.bytes_stay)
          (λ g. sym (found-alone g merged.1.waiting) ∙ ap (λ l. waiting_at l.waiting g) (merged.3 g) ∙ (short g).3)
          (λ g. subst (AreBothAlike (live_at w.server g))
          (sym (ap (λ l. live_at l g) (merged.3 g)) ∙ found-alone g merged.1.running) (short g).4),
    )
