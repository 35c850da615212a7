use Rattle.std.proofs.Common.{◌≡◌, ◌∙◌, ap}
use Rattle.std.specs.Option.{is_some}
use Rattle.wl_world_messages.specs.Messages.{place_of}
use Rattle.wl_world_messages.specs.MessageKeys.{key_of}
use Rattle.wl_world_messages.specs.BagIndex.{places_from}
use Rattle.wl_world_messages.proofs.Finding.{find-place_of, is_some-place_of}
use Rattle.wl_world_messages.proofs.bag.Bag.find.Goals as goal

pub returns : goal.returns
returns c =
    let places : c.places_at-places.result.now ≡ places_from 0 (key_of c.args.message.now) c.args.self.now =
    rw (c.places_at-places.ensures, c.key_of.ensures, ← c.self.view_is) (c.self.invariant.places (key_of c.args.message.now)) in
    let place : c.find_at.result ≡ place_of c.args.message.now c.args.self.now =
    rw (c.find_at.ensures, c.deref.ensures.value, c.self.view_is) (find-place_of c.args.message.now c.args.self.now c.places_at-places.result.now places) in
    record { place = place; sent = ap is_some place ∙ is_some-place_of c.args.message.now c.args.self.now }
