-- In all worlds the stored parts of an honest tab's report have the report's base and the tab's limit.
use Rattle.std.proofs.Common.{◌≡◌, ⊎_elim, ℕ, suc, ◌<◌, ◌≤◌, List, Option, Some, None, refl, sym, ap, ◌∙◌, subst, arith}
use Rattle.std.specs.Prelude.{⊤}
use Rattle.std.proofs.lemmas.Bool.{cases_eq}
use Rattle.wl_draft.specs.Locks.{Locks}
use Rattle.wl_draft.specs.Membership.{In}
use Rattle.wl_draft.specs.Tables.{find, put}
use Rattle.wl_draft.proofs.TableLemmas.{find-put_same, find-put_other}
use Rattle.wl_grammar.specs.Generation.{generation_of}
use Rattle.wl_grammar.specs.declared.frame.Addressed.{Addressed}
use Rattle.wl_grammar.specs.declared.frame.Upward.{Upward}
use Rattle.wl_grammar.specs.declared.frame.Upward.TheVariants as up
use Rattle.wl_broker_reports.specs.ReportParts.{Partial, Told, at_once, in_part, content_of, with_told}
use Rattle.wl_broker.specs.declared.seat.TabSeat.{TabSeat}
use Rattle.wl_broker.specs.Broker.{BrokerState, partial_of, with_seat, settled_at}
use Rattle.wl_broker.proofs.Takings.{Takes, joins, keeps, repeats, performs, Buries, again, stranger, ends, taking-Takes, burial-Buries}
use Rattle.wl_agent.specs.Tab.{TabState, live_limit}
use Rattle.wl_world_model.specs.World.{WorldState, empty_world, tab_of, run}
use Rattle.wl_world_model.specs.Holdings.{IsHonest}
use Rattle.wl_world_model.specs.declared.event.Event.{Event}
use Rattle.wl_world_model.proofs.exclusion.Invariant.{Sound, IsSaid, broker_of, up_message}
use Rattle.wl_world_model.proofs.exclusion.ToldParts.{body-told, find-without}
use Rattle.wl_library_model.proofs.Later.{Later}
use Rattle.wl_library_model.proofs.ProgressPlaces.{at_broker}
use Rattle.wl_quiescence.proofs.calls.Limits.{said-at_once, said-in_parts}
use Rattle.wl_quiescence.proofs.facts.Induction.{Kept, run-kept}

pub some-same : {X : Type 0} (x y : X) → Some x ≡ Some y → x ≡ y
some-same x y e = cc

pub none-some : {X : Type 0} (x : X) → None ≡ Some x → ⊥
none-some x e = cc

-- The limit of a report that a tab sends is the tab's.
pub said-limit : (a : TabState) (u : Upward) (y : Told) → IsSaid a u → content_of u ≡ Some y → y.limit ≡ live_limit a.in_parts
said-limit a (up.Command c) y i e = absurd (none-some y e)
said-limit a (up.Report r) y i e = ap (λ z. z.limit) (sym (some-same (at_once r) y e)) ∙ ap live_limit (sym (said-at_once a r i))
said-limit a (up.ReportPart r) y i e = ap (λ z. z.limit) (sym (some-same (in_part r) y e)) ∙ ap live_limit (sym (said-in_parts a r i))

-- An honest tab sends its present report to the running broker, or a part of it.
pub now-said : (w : WorldState) (b : BrokerState) → Sound (at_broker w (Some b)) → (t p : ℕ) (u : Upward) (y : Told) → content_of u ≡ Some y → In (up_message t p u) w.bag → generation_of u ≡ b.generation → IsHonest w t
    → ((tab_of w t).entered ≡ b.generation) × IsSaid (tab_of w t) u × (0 < generation_of u)
now-said w b s t p u y c i e h =
    let o = ((s.messages t).reports p u y c i).2 h in
    let lt : (tab_of w t).entered < suc w.kernel.generation = (s.tabs t).entered in
    let g : b.generation ≡ w.kernel.generation = s.current in
    let le : generation_of u ≤ (tab_of w t).entered = o.1 in
    (omega (arith, lt, g, le, e), o.2 (omega (arith, lt, g, le, e)), o.0)

-- Stored parts of each honest tab that has entered the broker's generation.
abbrev pub StoresOf : WorldState → BrokerState → Type 0
StoresOf w b =
    (t : ℕ) → IsHonest w t → (tab_of w t).entered ≡ b.generation → (k : Partial) → partial_of b t ≡ Some k → (k.base ≡ (tab_of w t).report.base) × (k.limit ≡ live_limit (tab_of w t).in_parts)

-- A tab takes a seat.
seat-stores : (w : WorldState) (b : BrokerState) (t p : ℕ) (seat : TabSeat) (m : Locks) → StoresOf w b → StoresOf w (settled_at (with_seat t seat b) p m)
unfolding settled_at
seat-stores w b t p seat m x u h e k f = x u h e k (find-without t u k b.partial f)

told-part : (p : ℕ) (y : Told) (o : Option Partial) → ((with_told p y o).base ≡ y.base) × ((with_told p y o).limit ≡ y.limit)
unfolding with_told
told-part p y o = (refl, refl)

takes-stores : (w : WorldState) (b : BrokerState) → Sound (at_broker w (Some b)) → StoresOf w b → (t p : ℕ) (u : Upward) → In (up_message t p u) w.bag → {c : BrokerState} {outs : List Addressed} → Takes b t p u c outs → StoresOf w c
takes-stores w b s x t p u i (joins told passes may whole) = seat-stores w b t p _ _ x
takes-stores w b s x t p u i (keeps {x = y} told passes may part) = λ v h e k f.
    ⊎_elim
    (λ q.
    let same : with_told p y (partial_of b t) ≡ k = some-same _ k (sym (find-put_same t (with_told p y (partial_of b t)) b.partial) ∙ subst (λ z. find (put t (with_told p y (partial_of b t)) b.partial) z ≡ Some k) q f) in
    let honest : IsHonest w t = subst (IsHonest w) q h in
    let o = now-said w b s t p u y told i passes.now honest in
    let is = (body-told (tab_of w t).in_parts (tab_of w t).report u y o.1 told).1 in
    let parts = told-part p y (partial_of b t) in
    subst (λ z. (k.base ≡ (tab_of w z).report.base) × (k.limit ≡ live_limit (tab_of w z).in_parts)) (sym q)
    (ap (λ z. z.base) (sym same) ∙ (parts.0 ∙ is.base), ap (λ z. z.limit) (sym same) ∙ (parts.1 ∙ said-limit (tab_of w t) u y o.1 told)))
    (λ d. x v h e k (sym (find-put_other t (with_told p y (partial_of b t)) b.partial v d) ∙ f))
    (cases_eq v t)
takes-stores w b s x t p u i (repeats passes served old) = x
takes-stores w b s x t p u i (performs passes served next) = seat-stores w b t p _ _ x

buries-stores : (w : WorldState) (b : BrokerState) (t : ℕ) → StoresOf w b → {c : BrokerState} {outs : List Addressed} → Buries b t c outs → StoresOf w c
buries-stores w b t x (again dead) = x
buries-stores w b t x (stranger alive none) = λ u h e k f. x u h e k (find-without t u k b.partial f)
buries-stores w b t x (ends {p = p} alive place) = seat-stores w b t p _ _ x

-- The tab has entered the broker's generation in both worlds, so its report is the same.
later-stores : (w v : WorldState) → Sound w → Later w v → broker_of v ≡ broker_of w → StoresOf w (broker_of w) → StoresOf v (broker_of v)
later-stores w v s later same x t h e k f =
    let stored : partial_of (broker_of w) t ≡ Some k = ap (λ z. partial_of z t) (sym same) ∙ f in
    let kept = (s.seats t).partial k stored in
    let honest = later.honest t h in
    let was = (kept.1 honest).0 in
    let current = s.current in
    let generation = ap (λ z. z.generation) same in
    let on = later.tabs t kept.0 in
    let report = on.report (omega (arith, e, generation, current, was)) in
    let y = x t honest (omega (arith, was, current)) k stored in
    (y.0 ∙ ap (λ z. z.base) (sym report), y.1 ∙ ap live_limit (sym on.in_parts))

stores-kept : Kept (λ w. ⊤) StoresOf
stores-kept = record {
  same = λ w v b tabs k corrupt x. subst (λ z. StoresOf (record w { tabs = z; corrupt = v.corrupt }) b) (sym tabs) (subst (λ z. StoresOf (record w { corrupt = z }) b) (sym corrupt) x);
  later = λ w v g f later one e x. later-stores w v g.sound later e x;
  takes = λ w b g f x s i c outs e. takes-stores (at_broker w (Some b)) b g.sound x s.tab s.partition s.inner i (taking-Takes b s c outs e);
  dies = λ w b t x. buries-stores w b t x (burial-Buries b t);
  first = λ t h e k f. absurd (none-some k f);
  fresh = λ w v b g listed tabs corrupt rise low x t h e k f. absurd (none-some k f);
}

pub run-stores : (es : List Event) → StoresOf (run es empty_world) (broker_of (run es empty_world))
run-stores es = run-kept (λ w. ⊤) StoresOf stores-kept (λ es. tt) es
