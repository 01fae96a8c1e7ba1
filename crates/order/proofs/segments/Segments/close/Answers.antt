use Rattle.std.proofs.Common.{set, sym, ap, ◌∙◌}
use Rattle.std.proofs.lemmas.List.{map-set, set-get_or}
use Rattle.std.proofs.Math.ListN.{get_or-map}
use Rattle.order.specs.Segments.{known_of}
use Rattle.order.proofs.segments.Segments.close.Goals as goal

pub returns-in-Some-clause-ends : goal.returns-in-Some-clause-ends
returns-in-Some-clause-ends g c = rw c.from.ensures (map-set (λ s. s.is_open) c.args.self.now.places.items c.args.x _)

pub returns-in-Some-clause-known : goal.returns-in-Some-clause-known
returns-in-Some-clause-known g c =
    let places = c.args.self.now.places.items in
    let was = c.in-Some.segment.now in
    let kept = ap (λ s. s.known) c.in-Some.ensures.value ∙ sym (get_or-map (λ s. s.known) places c.from.result was) in
    map-set (λ s. s.known) places c.from.result _ ∙ ap (set (known_of places) c.from.result) kept
    ∙ set-get_or (known_of places) c.from.result was.known
