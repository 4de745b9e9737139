-- What becomes of a network among others becomes of it by its own lines alone.
use Rattle.std.specs.Prelude.{◌≡◌, ◌+◌, ◌++◌, ◌∷◌, [], ℕ, Bool, true, false, is_some, nat_lt, length, List, Option, Some, None, if◌then◌else◌}
use Rattle.std.specs.Ordering.{nat_cmp}
use Rattle.std.specs.BTreeMap.{is_at}
use Rattle.std.proofs.Common.{◌∙◌, refl, sym, ap, subst, inl, true≢false}
use Rattle.std.proofs.lemmas.Bool.Decides.{Decides-eqb}
use Rattle.host_network.specs.Standing.{Machine}
use Rattle.line_script.specs.Script.{Bytes}
use Rattle.live_feed.specs.Served.{LineReply, ServesAll, journal_line, kept_as}
use Rattle.live_feed.specs.Served.ServesAll.{next, none}
use Rattle.live_feed.specs.WholeLines.{given}
use Rattle.live_feed.specs.declared.answering.Done.{Done}
use Rattle.live_host.specs.Apart.{AlikeNetworksAreAnsweredAlike, AreAllSameButForNumbers, AreSameButForNumbers, AreTheirBlocks, IsOrdered, NetworksFollowTheirOwnLines, NetworksGoOnByTheirOwnLines, OthersStay, NetworkLine, ReachedHostsAreOrdered, alone, is_done_to, only, texts_of_lines, lines_of_network}
use Rattle.live_host.specs.Futures.{AreAlike, AreAllAlike, behind_number, behind_numbers}
use Rattle.live_host.specs.Futures.AreAllAlike.{both_run, none_runs}
use Rattle.live_host.specs.Hosts.{Live, Serves, live_at, new_live}
use Rattle.live_host.proofs.AlikeHosts.{alike_hosts_answer_alike}
use Rattle.live_host.proofs.AlikeMachines.{AreFoundAlike, all-alike-the-other, all-alike-themselves, found-alike}
use Rattle.live_host.proofs.ApartLines.{hosts_stay_ordered, lines_are_answered_next_to_others, lines_are_local, not-done, other_lines_change_nothing}
use Rattle.live_host.proofs.Numbers.{numbers_stand_in_front}

-- ---- hosts that lines lead to
pub begins-ordered : (bytes : Bool) → IsOrdered (new_live bytes)
begins-ordered bytes = record { waiting = tt; running = tt; apart = λ g. inl refl }

pub begins-alike : (bytes : Bool) → AreAlike (new_live bytes) (new_live bytes)
begins-alike bytes = record { bytes = refl; waiting = refl; running = none_runs }

pub stays-ordered : (longest : ℕ) {l t : Live} {n : ℕ} {lines journal : List Bytes} {text : Bytes}
    → ServesAll Serves longest l n lines journal text t → IsOrdered l → IsOrdered t
stays-ordered longest none ordered = ordered
stays-ordered longest (next {s} {t} {n} {line} a serves others) ordered =
    stays-ordered longest others (hosts_stay_ordered s t n (given longest line) a ordered serves)

pub reached_hosts_are_ordered : ReachedHostsAreOrdered
reached_hosts_are_ordered longest bytes n lines journal text l serves =
    stays-ordered longest serves (begins-ordered bytes)

pub alike-after : (l t : Live) (n : ℕ) (line : Option Bytes) (a : LineReply) → AreAlike l l → Serves l n line a t → AreAlike t t
alike-after l t n line a alike serves =
    let here = alike_hosts_answer_alike l l t n line a alike serves in
    record { bytes = refl; waiting = refl; running = all-alike-themselves here.2.running }

only-alike : (g : ℕ) (o : Option Machine) → AreFoundAlike o o → AreAllAlike (only g o) (only g o)
only-alike g None alike = none_runs
only-alike g (Some m) alike = both_run alike none_runs

pub alone-alike : (g : ℕ) (l : Live) → AreAlike l l → AreAlike (alone g l) (alone g l)
alone-alike g l alike = record {
  bytes = refl;
  waiting = refl;
  running = only-alike g (live_at l g) (found-alike (is_at (nat_cmp g)) alike.running);
}

-- ---- whose line it is
pub is-its : (g : ℕ) (o : Option Done) → is_done_to g o ≡ true → (d : Done) × (o ≡ Some d) × (d.network ≡ g)
is-its g None is = absurd (true≢false (sym is))
is-its g (Some d) is = (d, refl, (Decides-eqb d.network g).0 is)

-- a line of another network, or of none, leaves it as it was
pub is-another : (g : ℕ) (l t : Live) (n : ℕ) (line : Option Bytes) (a : LineReply) → IsOrdered l → Serves l n line a t
    → is_done_to g a.done ≡ false → alone g t ≡ alone g l
is-another g l t n line a ordered serves = by a.done refl
  where
    by : (o : Option Done) → a.done ≡ o → is_done_to g o ≡ false → alone g t ≡ alone g l
    by None not-any is = ap (alone g) (other_lines_change_nothing l t n line a serves not-any)
    by (Some d) some is =
        (lines_are_local l t n line a d ordered serves some).1 g
        (λ same. true≢false (sym ((Decides-eqb d.network g).1 (sym same)) ∙ is))

pub is-own : (g : ℕ) (l t : Live) (n : ℕ) (line : Option Bytes) (a : LineReply) (d : Done) → IsOrdered l
    → Serves l n line a t → a.done ≡ Some d → d.network ≡ g → Serves (alone g l) n line a (alone g t)
is-own g l t n line a d ordered serves some is =
    subst (λ h. Serves (alone h l) n line a (alone h t)) is (lines_are_local l t n line a d ordered serves some).0

-- a line that did something is kept as it is
pub is-kept : (longest : ℕ) (l t : Live) (n : ℕ) (line : Bytes) (a : LineReply) (d : Done)
    → Serves l n (given longest line) a t → a.done ≡ Some d → journal_line (given longest line) a ≡ line
is-kept longest l t n line a d serves some = by (nat_lt longest (length line)) serves
  where
    by : (long : Bool) → Serves l n (if long then None else Some line) a t
        → journal_line (if long then None else Some line) a ≡ line
    by true (is, same) = not-done a d (ap (λ x. x.done) is) some
    by false serves = ap (λ o. kept_as (Some line) (is_some o)) some

-- ---- its lines alone
-- these lines of a network are served with this text
abbrev AreServedSo : ℕ → ℕ → List NetworkLine → Live → Live → ℕ → List Bytes → Bytes → Type 0
AreServedSo longest g owns l t k journal text =
    (again : ServesAll Serves longest l k (texts_of_lines owns) journal text t) × AreAllSameButForNumbers owns (lines_of_network g again)

abbrev AreFollowed : ℕ → ℕ → List NetworkLine → Live → Live → Type 0
AreFollowed longest g owns l t =
    (blocks : List (List Bytes)) × AreTheirBlocks owns blocks
    × ((k : ℕ) → AreServedSo longest g owns l t k (texts_of_lines owns) (behind_numbers k blocks))

served-first : (longest g : ℕ) (l now t : Live) (k : ℕ) (b : LineReply) (o : NetworkLine) (owns : List NetworkLine) (text : Bytes)
    → Serves l k (given longest o.line) b now → is_done_to g b.done ≡ true
    → AreSameButForNumbers o (record { number = k; line = o.line; reply = b })
    → AreServedSo longest g owns now t (k + 1) (texts_of_lines owns) text
    → AreServedSo longest g (o ∷ owns) l t k (journal_line (given longest o.line) b ∷ texts_of_lines owns) (b.text ++ text)
served-first longest g l now t k b o owns text serves its one (rest, same) = (
  next b serves rest,
  subst
      (λ is. AreAllSameButForNumbers (o ∷ owns)
      (if is then record { number = k; line = o.line; reply = b } ∷ lines_of_network g rest else lines_of_network g rest))
      (sym its) (one, same),
)

followed-one : (longest g : ℕ) (l now t : Live) (n : ℕ) (line : Bytes) (a : LineReply) (d : Done) (owns : List NetworkLine)
    → AreAlike l l → Serves l n (given longest line) a now → a.done ≡ Some d → is_done_to g a.done ≡ true
    → AreFollowed longest g owns now t
    → AreFollowed longest g (record { number = n; line = line; reply = a } ∷ owns) l t
followed-one longest g l now t n line a d owns alike serves some its (blocks, are, rest) =
    by (numbers_stand_in_front l now n (given longest line) a alike serves)
  where
    by : (rests : List Bytes) × (a.text ≡ behind_number n rests)
        × ((k : ℕ) → Serves l k (given longest line) (record { text = behind_number k rests; done = a.done }) now)
        → AreFollowed longest g (record { number = n; line = line; reply = a } ∷ owns) l t
    by (rests, text, serves-by) = (
      rests ∷ blocks,
      (text, are),
      λ k. subst
          (λ first. AreServedSo longest g (record { number = n; line = line; reply = a } ∷ owns) l t k
          (first ∷ texts_of_lines owns) (behind_number k rests ++ behind_numbers (k + 1) blocks))
          (is-kept longest l now n line a d serves some)
          (served-first longest g l now t k (record { text = behind_number k rests; done = a.done })
          (record { number = n; line = line; reply = a }) owns (behind_numbers (k + 1) blocks) (serves-by k) its
          (record { line = refl; done = refl; rests = rests; one_text = text; other_text = refl }) (rest (k + 1))),
    )

follows : (longest g : ℕ) {l t : Live} {n : ℕ} {lines journal : List Bytes} {text : Bytes}
    (run : ServesAll Serves longest l n lines journal text t) → IsOrdered l → AreAlike l l
    → AreFollowed longest g (lines_of_network g run) (alone g l) (alone g t)
follows longest g none ordered alike = ([], tt, λ k. (none, tt))
follows longest g (next {s} {t = now} {u} {n} {line} a serves others) ordered alike =
    by (is_done_to g a.done) refl
    (follows longest g others (hosts_stay_ordered s now n (given longest line) a ordered serves)
    (alike-after s now n (given longest line) a alike serves))
  where
    by : (is : Bool) → is_done_to g a.done ≡ is → AreFollowed longest g (lines_of_network g others) (alone g now) (alone g u)
        → AreFollowed longest g
        (if is then record { number = n; line = line; reply = a } ∷ lines_of_network g others else lines_of_network g others) (alone g s)
        (alone g u)
    by true is rest =
        let its = is-its g a.done is in
        followed-one longest g (alone g s) (alone g now) (alone g u) n line a its.0 (lines_of_network g others) (alone-alike g s alike)
        (is-own g s now n (given longest line) a its.0 ordered serves its.1 its.2) its.1 is rest
    by false is rest =
        subst (λ l. AreFollowed longest g (lines_of_network g others) l (alone g u))
        (is-another g s now n (given longest line) a ordered serves is) rest

pub networks_go_on_by_their_own_lines : NetworksGoOnByTheirOwnLines
networks_go_on_by_their_own_lines longest l n lines journal text t run g ordered alike =
    follows longest g run ordered alike

pub networks_follow_their_own_lines : NetworksFollowTheirOwnLines
networks_follow_their_own_lines longest bytes n lines journal text t run g =
    follows longest g run (begins-ordered bytes) (begins-alike bytes)

-- ---- one line of a network that is alike
pub alike_networks_are_answered_alike : AlikeNetworksAreAnsweredAlike
alike_networks_are_answered_alike l other t n line a d ordered also room alike serves some =
    let local = lines_are_local l t n line a d ordered serves some in
    let there =
    alike_hosts_answer_alike (alone d.network l) (alone d.network other) (alone d.network t) n line a alike local.0 in
    let itself : AreAlike (alone d.network other) (alone d.network other) =
    record { bytes = refl; waiting = refl; running = all-alike-themselves (all-alike-the-other alike.running) } in
    let by = numbers_stand_in_front (alone d.network other) there.0 n line a itself there.1 in (
      by.0,
      by.1,
      λ k. placed k (record { text = behind_number k by.0; done = a.done }) there.0 there.2
          (lines_are_answered_next_to_others other there.0 k line (record { text = behind_number k by.0; done = a.done }) d also
          room (by.2 k) some),
    )
  where
    placed : (k : ℕ) (b : LineReply) (own : Live) → AreAlike (alone d.network t) own
        → (new : Live) × Serves other k line b new × (alone d.network new ≡ own) × OthersStay d.network other new
        → (new : Live) × Serves other k line b new × AreAlike (alone d.network t) (alone d.network new)
        × OthersStay d.network other new
    placed k b own is (new, served, same, stay) = (new, served, subst (AreAlike (alone d.network t)) (sym same) is, stay)
