-- Replies to refused events.
use Rattle.std.specs.Prelude.{Option, Some, None}
use Rattle.wl_world_messages.specs.declared.effect.Effect.{Effect}
use Rattle.wl_world_messages.specs.declared.effect.Effect.TheVariants as said
use Rattle.wl_world_messages.specs.declared.effect.Refusal.{Refusal}

abbrev pub refused : Refusal → Effect
refused r = said.Refused r

abbrev pub refused_or : Option Refusal → Effect → Effect
refused_or (Some r) s = refused r
refused_or None s = s
