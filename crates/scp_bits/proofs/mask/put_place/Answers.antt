use Rattle.std.proofs.Common.{◌<◌, ◌%◌, ◌*◌, ◌^◌, ◌/◌, ℕ, IfSome, Option, length, get_or, ap, subst, ◌∙◌}
use Rattle.std.specs.Prelude.{bit_or}
use Rattle.std.proofs.lemmas.List.{get_or_default}
use Rattle.scp_bits.specs.declared.mask.Mask.{Mask}
use Rattle.scp_bits.specs.Places.{is_free}
use Rattle.scp_bits.proofs.Words.{added_alone, added_to, counted_alone, counted_to}
use Rattle.scp_bits.proofs.mask.put_place.Goals as goal

pub returns-in_ok-push-in-None-clause-places : goal.returns-in_ok-push-in-None-clause-places
returns-in_ok-push-in-None-clause-places c = added_alone c.args.masks.now.items c.push.new.self.items c.args.place c.in_ok-push-in-None.ensures.items

pub returns-in-Some-clause-places : goal.returns-in-Some-clause-places
returns-in-Some-clause-places c =
    let ms = c.args.masks.now.items in
    let place = c.args.place in
    let none : Mask = record { index = 0; bits = 0 } in
    let bit = (1 * 2 ^ (place % 64)) % 2 ^ 64 in
    let found = subst (λ (o : Option ℕ). IfSome o (λ i. (i < length ms) × is_free (place / 64) bit (get_or ms i none))) c.in-Some.is c.requires in
    added_to ms c.in-Some.found place none found.0 found.1 (bit_or c.index.result.now.bits bit)
    (ap (λ (m : Mask). bit_or m.bits bit) (c.index.ensures ∙ get_or_default ms c.in-Some.found c.index.result.now none found.0))

pub returns-in_ok-push-in-None-clause-count : goal.returns-in_ok-push-in-None-clause-count
returns-in_ok-push-in-None-clause-count c = counted_alone c.args.masks.now.items c.push.new.self.items c.args.place c.in_ok-push-in-None.ensures.items

pub returns-in-Some-clause-count : goal.returns-in-Some-clause-count
returns-in-Some-clause-count c =
    let ms = c.args.masks.now.items in
    let place = c.args.place in
    let none : Mask = record { index = 0; bits = 0 } in
    let bit = (1 * 2 ^ (place % 64)) % 2 ^ 64 in
    let found = subst (λ (o : Option ℕ). IfSome o (λ i. (i < length ms) × is_free (place / 64) bit (get_or ms i none))) c.in-Some.is c.requires in
    counted_to ms c.in-Some.found place none found.0 found.1 (bit_or c.index.result.now.bits bit)
    (ap (λ (m : Mask). bit_or m.bits bit) (c.index.ensures ∙ get_or_default ms c.in-Some.found c.index.result.now none found.0))
