-- What was told of each network is what is printed of all.
use Rattle.std.proofs.Common.{◌≡◌, ◌∙◌, ◌+◌, ◌++◌, ℕ, suc, List, [], ◌∷◌, Option, Some, IfSome, length, map, refl, sym, ap, ap₂, subst, arith}
use Rattle.std.specs.Prelude.{string_bytes}
use Rattle.std.specs.List.{AllZip, flat_map}
use Rattle.std.proofs.lemmas.List.{append-nil}
use Rattle.std.proofs.lemmas.List.Concat.{flat_map-append}
use Rattle.scp_types.specs.declared.event.Event.{Event}
use Rattle.scp_spec.specs.Hosts.{Config}
use Rattle.line_script.specs.Script.{Bytes}
use Rattle.pool_queue.specs.Doing.{AreTasksDone}
use Rattle.pool_queue.specs.Hands.{weigh}
use Rattle.pool_queue.proofs.Balances.{weigh-append}
use Rattle.pool_queue.proofs.Sharing.{Makes, makes_all, makes_more}
use Rattle.pool_workers.specs.declared.running.Report.{Report}
use Rattle.pool_script.specs.Dealing.{AreNetworkShares, calls_elsewhere}
use Rattle.pool_script.specs.Errands.{HaveErrands, HasWorkedOff, IsTextOfErrands, IsNetworkTold}
use Rattle.pool_script.specs.Pooling.{NetworkEnd, IsPoolText, IsWorkedOff, jobs_of}
use Rattle.pool_script.specs.PoolLines.{AreAllDecidedLines, length_lines, report_line}
use Rattle.pool_script.specs.PoolLines.AreAllDecidedLines.{none, more}
use Rattle.pool_script.specs.declared.dealing.Share.{Share}
use Rattle.pool_script.specs.declared.errand.Errand.{Errand}
use Rattle.pool_script.specs.declared.running.Told.{Told}

-- how all networks ended, with what is told of them
record HaveEnds (shares : List Share) (tolds : List Told) : Type 0 where
  ends : List NetworkEnd
  worked : AllZip (λ s (e : NetworkEnd). IsWorkedOff s.config s.calls.items e.log e.report) shares ends
  lines : AreAllDecidedLines (map (λ (e : NetworkEnd). e.log) ends) (flat_map (λ (t : Told). string_bytes t.decided) tolds)
  long : flat_map (λ (t : Told). string_bytes t.length) tolds ≡ length_lines (map (λ (e : NetworkEnd). e.log) ends)
  applied : weigh (λ (t : Told). t.report.applied) tolds ≡ weigh (λ (e : NetworkEnd). e.report.applied) ends
  refused : weigh (λ (t : Told). t.report.refused) tolds ≡ weigh (λ (e : NetworkEnd). e.report.refused) ends
  unrun : weigh (λ (t : Told). t.report.unrun) tolds ≡ weigh (λ (e : NetworkEnd). e.report.unrun) ends

one_more : (f : Told → Bytes) (ts : List Told) (t : Told) (text longer : Bytes) → longer ≡ text ++ f t → text ≡ flat_map f ts → longer ≡ flat_map f (ts ++ t ∷ [])
one_more f ts t text longer grown is = grown ∙ ap (λ bs. bs ++ f t) is ∙ ap (λ bs. flat_map f ts ++ bs) (sym (append-nil (f t))) ∙ sym (flat_map-append f ts (t ∷ []))

module _ {R : Type 0} where
  rest_done : (x y : Errand R) (xs ys : List (Errand R)) → AreTasksDone HasWorkedOff (x ∷ xs) (y ∷ ys) → AreTasksDone HasWorkedOff xs ys
  rest_done x y xs ys h = let n = h.count in record {
    count = omega arith;
    each = λ k d l. h.each (suc k) d (omega arith);
  }

  told_of : (s : Share) (t : Told) (old new : Errand R) → old.share ≡ Some s → new.told ≡ Some t → HasWorkedOff old new → IsNetworkTold s.config s.calls.items t
  told_of s t old new has tells h = subst (λ (z : Option Share × Option Told). IfSome z.0 (λ s. IfSome z.1 (IsNetworkTold s.config s.calls.items))) (λ i. (has i, tells i)) h

  ends_of : (shares : List Share) (old new : List (Errand R)) (tolds : List Told) → HaveErrands shares old → AreTasksDone HasWorkedOff old new → AllZip (λ (e : Errand R) t. e.told ≡ Some t) new tolds → HaveEnds shares tolds
  ends_of [] [] [] [] errands done told = record { ends = []; worked = tt; lines = none; long = refl; applied = refl; refused = refl; unrun = refl }
  ends_of [] [] [] (t ∷ ts) errands done told = absurd told
  ends_of [] [] (y ∷ ys) tolds errands done told = let n = done.count in absurd (omega arith)
  ends_of [] (x ∷ xs) new tolds errands done told = absurd errands
  ends_of (s ∷ ss) [] new tolds errands done told = absurd errands
  ends_of (s ∷ ss) (x ∷ xs) [] tolds errands done told = let n = done.count in absurd (omega arith)
  ends_of (s ∷ ss) (x ∷ xs) (y ∷ ys) [] errands done told = absurd told
  ends_of (s ∷ ss) (x ∷ xs) (y ∷ ys) (t ∷ ts) errands done told =
      let one : IsNetworkTold s.config s.calls.items t = told_of s t x y errands.0 told.0 (done.each 0 x (omega arith)) in
      let rest = ends_of ss xs ys ts errands.1 (rest_done x y xs ys done) told.1 in
      let a = rest.applied in
      let r = rest.refused in
      let u = rest.unrun in
      record {
        ends = record { log = one.log; report = t.report } ∷ rest.ends;
        worked = (one.worked, rest.worked);
        lines = more one.decided rest.lines;
        long = ap₂ (λ a b. a ++ b) one.long rest.long;
        applied = omega arith;
        refused = omega arith;
        unrun = omega arith;
      }

  -- what some of the errands have told is written, and the others are left
  pub record IsPartlyTold (all left : List (Errand R)) (lacking : ℕ) (decided lengths : Bytes) (report : Report) : Type 0 where
    pub tolds : List Told
    pub told : Makes (λ (e : Errand R) t. e.told ≡ Some t) all left tolds
    pub decided_is : decided ≡ flat_map (λ (t : Told). string_bytes t.decided) tolds
    pub lengths_is : lengths ≡ flat_map (λ (t : Told). string_bytes t.length) tolds
    pub applied : report.applied ≡ weigh (λ (t : Told). t.report.applied) tolds
    pub refused : report.refused ≡ weigh (λ (t : Told). t.report.refused) tolds + lacking
    pub unrun : report.unrun ≡ weigh (λ (t : Told). t.report.unrun) tolds

  pub one_told : (all left rest : List (Errand R)) (lacking : ℕ) (decided lengths wider longer : Bytes) (report sum : Report) (e : Errand R) (t : Told) → left ≡ e ∷ rest → e.told ≡ Some t
      → wider ≡ decided ++ string_bytes t.decided → longer ≡ lengths ++ string_bytes t.length
      → (sum.applied ≡ report.applied + t.report.applied) × (sum.refused ≡ report.refused + t.report.refused) × (sum.unrun ≡ report.unrun + t.report.unrun)
      → IsPartlyTold all left lacking decided lengths report → IsPartlyTold all rest lacking wider longer sum
  one_told all left rest lacking decided lengths wider longer report sum e t is tells wide long sums part =
      let a = part.applied in
      let r = part.refused in
      let u = part.unrun in
      let more : (f : Told → ℕ) → weigh f (part.tolds ++ t ∷ []) ≡ weigh f part.tolds + (f t + 0) = λ f. weigh-append f part.tolds (t ∷ []) in
      let ma = more (λ (t : Told). t.report.applied) in
      let mr = more (λ (t : Told). t.report.refused) in
      let mu = more (λ (t : Told). t.report.unrun) in
      let s0 = sums.0 in
      let s1 = sums.1 in
      let s2 = sums.2 in
      record {
        tolds = part.tolds ++ t ∷ [];
        told = makes_more _ all left rest e part.tolds (part.tolds ++ t ∷ []) t is tells refl part.told;
        decided_is = one_more (λ (t : Told). string_bytes t.decided) part.tolds t decided wider wide part.decided_is;
        lengths_is = one_more (λ (t : Told). string_bytes t.length) part.tolds t lengths longer long part.lengths_is;
        applied = omega arith;
        refused = omega arith;
        unrun = omega arith;
      }

  pub all_told : (all left : List (Errand R)) (lacking : ℕ) (decided lengths text : Bytes) (report : Report) → length left ≡ 0 → text ≡ (decided ++ lengths) ++ report_line report.applied report.refused report.unrun
      → IsPartlyTold all left lacking decided lengths report → IsTextOfErrands all lacking text
  all_told all left lacking decided lengths text report empty is part = record {
    tolds = part.tolds;
    told = makes_all _ all left part.tolds empty part.told;
    parts = is ∙ (λ i. (part.decided_is i ++ part.lengths_is i) ++ report_line (part.applied i) (part.refused i) (part.unrun i));
  }

  pub pool_text : (configs : List Config) (calls elsewhere : List (ℕ × Event)) (shares : List Share) (old new : List (Errand R)) (lacking : ℕ) (text : Bytes)
      → AreNetworkShares configs calls shares → elsewhere ≡ calls_elsewhere configs calls → lacking ≡ length (jobs_of elsewhere) → HaveErrands shares old → AreTasksDone HasWorkedOff old new
      → IsTextOfErrands new lacking text → IsPoolText configs calls text
  pool_text configs calls elsewhere shares old new lacking text dealt others count errands done told =
      let all = ends_of shares old new told.tolds errands done told.told in
      let many : lacking ≡ length (jobs_of (calls_elsewhere configs calls)) = count ∙ ap (λ cs. length (jobs_of cs)) others in
      record {
        shares = shares;
        dealt = dealt;
        ends = all.ends;
        worked = all.worked;
        written = record {
          decided = flat_map (λ (t : Told). string_bytes t.decided) told.tolds;
          lines = all.lines;
          parts = told.parts ∙ (λ i. (flat_map (λ (t : Told). string_bytes t.decided) told.tolds ++ all.long i) ++ report_line (all.applied i) (all.refused i + many i) (all.unrun i));
        };
      }
