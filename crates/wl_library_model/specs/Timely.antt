-- Channels of a partition in which no tab opens while a post is on its way: they are the world's channels.
use Rattle.std.specs.Prelude.{◌≡◌, ◌⊎◌, ℕ, List, [], ◌∷◌, true, Ok, ⊤}
use Rattle.wl_origin.specs.Order.{Pair}
use Rattle.wl_draft.specs.Membership.{In}
use Rattle.wl_grammar.specs.declared.frame.Post.{Post}
use Rattle.wl_grammar.specs.declared.frame.Frame.{Frame}
use Rattle.wl_grammar.specs.declared.frame.Frame.TheVariants as frame
use Rattle.wl_client.specs.declared.client.Unsent.TheVariants as unsent
use Rattle.wl_world_model.specs.World.{empty_world, channels_of, run}
use Rattle.wl_world_model.specs.Apart.{is_in}
use Rattle.wl_library_model.specs.Library.{Library, Step, Opens, new_library, client_of, step, run_steps}
use Rattle.wl_library_model.specs.Events.{events}

-- The tab was opened in the partition.
abbrev pub IsOf : Pair → Library → ℕ → Type 0
IsOf p l t = is_in p l.hub.supervised.kernel t ≡ true

-- A post of the tab is on its way: its client has still to send it, it stands in the tab's link, or the hub has still to
-- handle it.
abbrev pub IsPosting : Library → ℕ → Type 0
IsPosting l s =
    ((f : Frame) × In (unsent.Post f) (client_of l s).unsent)
    ⊎ (((p : Post) × In (frame.Post p) (l.lines s).up)
    ⊎ ((p : Post) × (l.hub.sender ≡ s) × In (frame.Post p) l.hub.arrived))

-- The step opens no tab of the partition while a post of one of its tabs is on its way.
abbrev pub OpensApartNow : Pair → Library → Step → Type 0
OpensApartNow p l (Opens t (Ok q) is_pair) = q ≡ p → (s : ℕ) → IsOf p l s → IsPosting l s → ⊥
OpensApartNow p l x = ⊤

abbrev pub OpensApart : Pair → Library → List Step → Type 0
OpensApart p l [] = ⊤
OpensApart p l (x ∷ xs) = OpensApartNow p l x × OpensApart p (step x l) xs

-- The client of each tab of the partition that was welcomed has the channels that the world has for the tab.
abbrev pub ChannelsAreRuns : Type 0
ChannelsAreRuns =
    (steps : List Step) (p : Pair) → OpensApart p new_library steps → let l = run_steps steps new_library in
    (t : ℕ) → IsOf p l t → (client_of l t).is_welcomed ≡ true → (client_of l t).channels ≡ channels_of (run (events steps) empty_world) t
