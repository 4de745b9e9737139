-- Declarations of one network leave a host that has it alone, and with less it begins with less.
use Rattle.std.specs.Prelude.{◌≡◌, ◌∷◌, [], ℕ, Bool, List, Option, Some, None}
use Rattle.std.specs.Ordering.{is_eq, nat_cmp}
use Rattle.std.specs.BTreeMap.{insert_entry, is_at}
use Rattle.std.specs.Map.{set_value}
use Rattle.std.proofs.Common.{◌∙◌, refl, sym, ap, subst, cond}
use Rattle.line_script.specs.Script.{Bytes}
use Rattle.live_feed.specs.Served.{LineReply}
use Rattle.live_feed.specs.WholeLines.{given}
use Rattle.line_request.specs.Outlines.{IsRevised, Outlined, Waiting, bare_outline, waiting_without, with_node, with_roster}
use Rattle.line_request.specs.Preparing.{Prepares}
use Rattle.line_request.specs.declared.request.Declaration.{Declaration}
use Rattle.line_request.specs.declared.request.Declaration.TheVariants as declaration
use Rattle.live_host.specs.Apart.{only}
use Rattle.live_host.specs.Hosts.{IsStarted, Live, Serves, begun}
use Rattle.live_host.specs.Lowering.{AreDeclared, DeclarationsLeaveOne, LessBegins, declared_of, less_config, less_outline, waits_alone}
use Rattle.live_host.specs.Lowering.AreDeclared.{next_line, none_left}
use Rattle.live_host.proofs.Alone.{at-itself, found-only, same-live}
use Rattle.live_host.proofs.LoweringConfigs.{less_is_configured}
use Rattle.live_host.proofs.LoweringRuns.{declared-by}

-- the network waits, or there is none
record HasOnly (g : ℕ) (b : Bool) (o : Option Outlined) (l : Live) : Type 0 where
  bytes : l.bytes ≡ b
  waiting : l.waiting ≡ only g o
  running : l.running ≡ []

revised-only : (g : ℕ) (change : Outlined → Outlined) (o : Option Outlined) (new : Waiting)
    → IsRevised g change (only g o) new → (after : Outlined) × (new ≡ only g (Some after))
revised-only g change o new (was, waits, is) =
    let same : o ≡ Some was = sym (found-only g o) ∙ waits in (
      change was,
      is ∙ ap (λ x. set_value (is_at (nat_cmp g)) (only g x) (change was)) same
          ∙ ap (λ order. cond (is_eq order) ((g, change was) ∷ []) ((g, was) ∷ [])) (at-itself g),
    )

prepared-only : (g : ℕ) (x : Declaration) (o : Option Outlined) (new : Waiting) → Prepares g x (only g o) new
    → (after : Outlined) × (new ≡ only g (Some after))
prepared-only g (declaration.Net b) o new (waits, is) =
    let none : o ≡ None = sym (found-only g o) ∙ waits in
    (bare_outline b, is ∙ ap (λ x. insert_entry nat_cmp (only g x) g (bare_outline b)) none)
prepared-only g (declaration.Node u q) o new revised = revised-only g (λ d. with_node d u q) o new revised
prepared-only g (declaration.Roster r) o new revised =
    revised-only g (λ d. with_roster d r.names.items r.shares) o new revised

line-only : (longest g n : ℕ) (b : Bool) (o : Option Outlined) (old new : Live) (line : Bytes) (a : LineReply) → HasOnly g b o old
    → Serves old n (given longest line) a new → a.done ≡ declared_of g → (after : Outlined) × HasOnly g b (Some after) new
line-only longest g n b o old new line a has serves some =
    let was = declared-by longest g n old new line a serves some in
    let declared = was.declared in
    let prepared =
    prepared-only g was.what o new.waiting (subst (λ ws. Prepares g was.what ws new.waiting) has.waiting declared.1) in (
      prepared.0,
      record {
        bytes = declared.3 ∙ has.bytes;
        waiting = prepared.1;
        running = declared.2 ∙ has.running;
      },
    )

all-only : (longest g : ℕ) (b : Bool) (o : Outlined) {n : ℕ} {s t : Live} {lines : List Bytes} → HasOnly g b (Some o) s
    → AreDeclared longest g s n lines t → (after : Outlined) × HasOnly g b (Some after) t
all-only longest g b o has none_left = (o, has)
all-only longest g b o has (next_line {s} {t = now} {n} {line} a serves some rest) =
    let one = line-only longest g n b (Some o) s now line a has serves some in
    all-only longest g b one.0 one.1 rest

declared-only : (longest g : ℕ) (b : Bool) (o : Option Outlined) {n : ℕ} {s t : Live} {line : Bytes} {lines : List Bytes}
    → HasOnly g b o s → AreDeclared longest g s n (line ∷ lines) t → (after : Outlined) × HasOnly g b (Some after) t
declared-only longest g b o has (next_line {s} {t = now} {n} {line} a serves some rest) =
    let one = line-only longest g n b o s now line a has serves some in
    all-only longest g b one.0 one.1 rest

pub declarations_leave_one : DeclarationsLeaveOne
declarations_leave_one longest g n b t line lines run =
    let one = declared-only longest g b None (record { bytes = refl; waiting = refl; running = refl }) run in
    (one.0, same-live t.bytes b t.waiting ((g, one.0) ∷ []) t.running [] one.1.bytes one.1.waiting one.1.running)

-- ---- what begins
pub less_begins : LessBegins
less_begins d g b o c of =
    let waits : Live = waits_alone b g (less_outline d o) in
    subst (λ x. IsStarted x g waits (record { bytes = b; waiting = []; running = (g, begun (less_config d c)) ∷ [] }))
    (sym (found-only g (Some (less_outline d o))))
    (less_config d c, less_is_configured d g o c of, gone, refl, refl)
  where
    gone : [] ≡ waiting_without ((g, less_outline d o) ∷ []) g
    gone = ap (λ order. cond (is_eq order) [] ((g, less_outline d o) ∷ [])) (sym (at-itself g))
