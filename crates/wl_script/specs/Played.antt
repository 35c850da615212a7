-- The effect of a script line on a world, and the text printed for it.
use Rattle.std.specs.Prelude.{ℕ, Bool, true, false, ◌-◌, ◌==◌, ◌&&◌, List, [], ◌∷◌, ◌++◌, slice_get, Option, Some, None, is_some, is_none, Result, Ok, Err, codes, decimal, if◌then◌else◌}
use Rattle.std.specs.List.{flat_map}
use Rattle.wl_origin.specs.Order.{Pair}
use Rattle.wl_origin.specs.Partition.{partition_of, partition_of_pair}
use Rattle.wl_origin.specs.declared.fault.OriginFault.{OriginFault}
use Rattle.wl_origin.specs.declared.fault.OriginFault.TheVariants as origin
use Rattle.wl_kernel.specs.Kernel.{open_refusal, living_tabs}
use Rattle.wl_world_messages.specs.declared.message.Message.{Message}
use Rattle.wl_tab.specs.declared.holding.Holding.{Holding}
use Rattle.wl_world_model.specs.declared.event.Event.{Event}
use Rattle.wl_world_model.specs.declared.event.Event.TheVariants as event
use Rattle.wl_world_model.specs.World.{WorldState, after_event}
use Rattle.wl_world_model.specs.Replies.{reply_of}
use Rattle.wl_world_model.specs.Machine.{held_by_living}
use Rattle.wl_script.specs.declared.sim_line.SimLine.{SimLine}
use Rattle.wl_script.specs.declared.sim_line.SimLine.TheVariants as line
use Rattle.wl_script.specs.MessageTexts.{lock_text}
use Rattle.wl_script.specs.ReplyTexts.{reply_text}
use Rattle.wl_script_words.specs.WordPrinting.{line as text_line}

pub record Played : Type 0 where
  pub world : WorldState
  pub written : List ℕ

-- An event happens, and its reply is printed.
abbrev pub plays : WorldState → Event → Played
plays w e = record { world = after_event w e; written = reply_text (reply_of w e) }

-- The world stays as it is, and a line is printed.
abbrev pub says : WorldState → List ℕ → Played
says w text = record { world = w; written = text_line text }

-- Openings

-- A second event follows.
abbrev pub and_plays : Played → Event → Played
and_plays p e = let q = plays p.world e in record { world = q.world; written = p.written ++ q.written }

-- The event that opens a tab. The Boolean tells whether the tab reports in parts.
abbrev pub opening : Bool → ℕ → Pair → Event
opening false t partition = event.Open t partition
opening true t partition = event.OpenTwo t partition

-- If the tab is opened and a broker is up, the kernel greets the tab.
abbrev pub opens : Bool → WorldState → ℕ → Pair → Played
opens in_parts w t partition =
    let p = plays w (opening in_parts t partition) in
    if is_none (open_refusal t partition w.kernel) && is_some w.broker then and_plays p (event.Hello t) else p

-- The text of a fault of URLs. Running out of memory is never printed.
abbrev pub fault_text : OriginFault → List ℕ
fault_text origin.BadUrl = codes "BadUrl"
fault_text origin.Security = codes "SecurityError"
fault_text origin.Memory = []

abbrev pub opens_url : Bool → WorldState → ℕ → Result Pair OriginFault → Played
opens_url in_parts w t (Ok partition) = opens in_parts w t partition
opens_url in_parts w t (Err fault) = says w (fault_text fault)

-- Deliveries

-- The message of this name. Names count from 1 in the order of first sending.
abbrev pub named : WorldState → ℕ → Option Message
named w name = if name == 0 then None else slice_get w.bag (name - 1)

abbrev pub delivers : WorldState → Option Message → Played
delivers w None = says w (codes "no message")
delivers w (Some m) = plays w (event.Deliver m)

-- Holdings

-- The line T#K MODE NAME of a held lock.
unfoldable pub holding_text : Holding → List ℕ
holding_text h = text_line (decimal h.tab ++ codes "#" ++ decimal h.number ++ codes " " ++ lock_text h.mode h.name)

unfoldable pub holdings_text : List Holding → List ℕ
holdings_text [] = text_line (codes "nothing held")
holdings_text (h ∷ hs) = flat_map holding_text (h ∷ hs)

-- Lines

unfoldable pub played : WorldState → SimLine → Played
played w line.Blank = record { world = w; written = [] }
played w (line.Open t url) = opens_url false w t (partition_of url)
played w (line.OpenTwo t top url) = opens_url true w t (partition_of_pair top url)
played w line.StartAll = plays w (event.Start (living_tabs w.kernel))
played w (line.Deliver name) = delivers w (named w name)
played w line.Show = record { world = w; written = holdings_text (held_by_living w) }
played w (line.Happens e) = plays w e
