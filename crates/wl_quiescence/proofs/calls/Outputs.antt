-- Each frame for a tab is for one that was opened.
use Rattle.std.proofs.Common.{◌≡◌, ⊎_elim, ℕ, true, List, [], ◌∷◌, ◌++◌, is_some, refl, sym, ap, ◌∙◌, subst, append_assoc, append-nil}
use Rattle.std.proofs.lemmas.Bool.{and_parts}
use Rattle.wl_draft.specs.Membership.{In}
use Rattle.wl_grammar.specs.declared.frame.Frame.{Frame}
use Rattle.wl_grammar.specs.declared.frame.Frame.TheVariants as frame
use Rattle.wl_kernel.specs.Kernel.{KernelState, is_opened}
use Rattle.wl_kernel.specs.Routes.{hearers}
use Rattle.wl_kernel.specs.TableIndexes.{AreTabs}
use Rattle.wl_world_model.specs.World.{WorldState, empty_world, run}
use Rattle.wl_world_model.specs.WorldExamples.{p}
use Rattle.wl_world_model.proofs.apart.ToldApart.{opened as was_opened_at}
use Rattle.wl_world_model.proofs.apart.CutKernel.{finds, hearers-opened}
use Rattle.wl_world_model.proofs.apart.RunsApart.{reached}
use Rattle.wl_library_model.specs.Library.{Library, Step, HubAdvances, new_library, step, run_steps}
use Rattle.wl_library_model.specs.Events.{events, events_of, events_from}
use Rattle.wl_library_model.specs.Channels.{WasRouted}
use Rattle.wl_library_model.specs.Simulation.{ComesDown}
use Rattle.wl_library_model.proofs.Carried.{Sim}
use Rattle.wl_library_model.proofs.Happens.{run-later}
use Rattle.wl_library_model.proofs.Simulated.{run-sim, step-sim, steps-sim, empty-sim}
use Rattle.wl_library_model.proofs.PostsTraced.{Parts, HeardOf, lifted, step-parts, empty-parts}
use Rattle.wl_quiescence.proofs.rest.Law.{kernel-tabs}
use Rattle.wl_quiescence.proofs.calls.Opens.{OutputsOpened}

-- Posts of all runs

steps-push : (past : List Step) (x : Step) (l : Library) → run_steps (past ++ x ∷ []) l ≡ step x (run_steps past l)
steps-push [] x l = refl
steps-push (z ∷ zs) x l = steps-push zs x (step z l)

steps-after : (xs ys : List Step) (l : Library) → run_steps (xs ++ ys) l ≡ run_steps ys (run_steps xs l)
steps-after [] ys l = refl
steps-after (x ∷ xs) ys l = steps-after xs ys (step x l)

parts-from : (xs past : List Step) (l : Library) (w : WorldState) → l ≡ run_steps past new_library → Sim l w → Parts past l l → Parts (past ++ xs) (run_steps xs l) (run_steps xs l)
parts-from [] past l w is s y = subst (λ ys. Parts ys l l) (sym (append-nil past)) y
parts-from (x ∷ xs) past l w is s y =
    let m = step x l in
    subst (λ ys. Parts ys (run_steps xs m) (run_steps xs m)) (append_assoc past (x ∷ []) xs)
    (parts-from xs (past ++ x ∷ []) m (run (events_of l x) w) (ap (step x) is ∙ sym (steps-push past x new_library)) (step-sim l w x s) (step-parts past l w x is s (lifted past l w x s y)))

run-parts : (steps : List Step) → Parts steps (run_steps steps new_library) (run_steps steps new_library)
run-parts steps = parts-from steps [] new_library empty_world refl empty-sim empty-parts

-- A tab that hears a post was opened.
hearer-opened : (k : KernelState) (s t : ℕ) → AreTabs k.opened → In t (hearers s k) → is_opened k t ≡ true
hearer-opened k s t a i = let o = hearers-opened k s t i in ap (is_opened k) (sym o.2) ∙ ap is_some (finds k.opened o.0 a o.1)

-- A tab that was opened stays so.
opened-after : (xs : List Step) (l : Library) (w : WorldState) (t : ℕ) → Sim l w → is_opened l.hub.supervised.kernel t ≡ true → is_opened (run_steps xs l).hub.supervised.kernel t ≡ true
opened-after xs l w t s o =
    subst (λ z. is_opened z t ≡ true) (sym (steps-sim xs l w s).hub.kernel)
    ((run-later (events_from l xs) w s.good).opened t (subst (λ z. is_opened z t ≡ true) s.hub.kernel o)).0

routed-opened : (steps : List Step) (t s : ℕ) → WasRouted steps t s → is_opened (run_steps steps new_library).hub.supervised.kernel t ≡ true
routed-opened steps t s r =
    let l = run_steps r.before new_library in
    subst (λ (z : Library). is_opened z.hub.supervised.kernel t ≡ true) (sym (ap (λ zs. run_steps zs new_library) r.split ∙ steps-after r.before (HubAdvances ∷ r.later) new_library))
    (opened-after (HubAdvances ∷ r.later) l (run (events r.before) empty_world) t (run-sim r.before) (hearer-opened l.hub.supervised.kernel s t (kernel-tabs r.before p) r.hears))

module _ (steps : List Step) where
  abbrev now : Library
  now = run_steps steps new_library

  abbrev world : WorldState
  world = run (events steps) empty_world

  sim : Sim now world
  sim = run-sim steps

  same : now.hub.supervised.kernel ≡ world.kernel
  same = sim.hub.kernel

  -- By the kind of the frame.
  come-opened : (t : ℕ) (f : Frame) → ComesDown world t f → HeardOf steps now t f → is_opened world.kernel t ≡ true
  unfolding was_opened_at
  come-opened t (frame.Hello h) c y = ⊎_elim (λ i. ((sim.good.sound.messages t).hellos _ h i).2) (λ i. ((sim.good.sound.messages t).hellos _ h i).2) c
  come-opened t (frame.Answer x) c y = ⊎_elim (λ i. (reached p (events steps)).bag _ i) (λ r. r.0) c
  come-opened t (frame.Snapshot x) c y = (reached p (events steps)).bag _ c
  come-opened t (frame.Heard h) c y = subst (λ z. is_opened z t ≡ true) same (routed-opened steps t h.source y.routed)
  come-opened t (frame.Welcome x) c y = c.0
  come-opened t (frame.PairWelcome x) c y = c.0
  come-opened t (frame.Command x) c y = absurd c
  come-opened t (frame.Report x) c y = absurd c
  come-opened t (frame.ReportPart x) c y = absurd c
  come-opened t (frame.Post x) c y = absurd c
  come-opened t (frame.Stamped x) c y = absurd c
  come-opened t (frame.Start x) c y = absurd c
  come-opened t (frame.Addressed x) c y = absurd c
  come-opened t (frame.Dead x) c y = absurd c

  pub run-outputs : OutputsOpened now
  run-outputs t f i =
      subst (λ z. is_opened z t ≡ true) (sym same)
      (⊎_elim (λ d. (and_parts _ _ d).0) (λ c. come-opened t f c ((run-parts steps).hub.outs t f i)) (sim.hub.outputs t f i))
