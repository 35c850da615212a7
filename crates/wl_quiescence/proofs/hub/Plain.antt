-- The hub handles a frame that is not for the broker, or that the kernel refuses.
use Rattle.std.proofs.Common.{◌≡◌, inl, inr, ⊎_elim, ℕ, true, false, cond, List, [], ◌∷◌, ◌++◌, length, map, Some, refl, sym, ap, ap₂, ◌∙◌, subst}
use Rattle.std.specs.Prelude.{◌==◌}
use Rattle.std.proofs.lemmas.Bool.{cases_eq, eq-eqb, ne_eqb}
use Rattle.wl_draft.specs.Membership.{In}
use Rattle.wl_draft.proofs.Membership.{apart, In-map_cases, In-filter_cases}
use Rattle.wl_grammar.specs.declared.frame.Post.{Post}
use Rattle.wl_grammar.specs.declared.frame.Frame.{Frame}
use Rattle.wl_grammar.specs.declared.frame.Frame.TheVariants as frame
use Rattle.wl_broker.specs.Broker.{BrokerState}
use Rattle.wl_kernel.specs.Routes.{heard_of}
use Rattle.wl_hub.specs.Hub.{HubState}
use Rattle.wl_world_model.proofs.exclusion.Invariant.{limit_in}
use Rattle.wl_agent.specs.Tab.{is_report_due}
use Rattle.wl_library_model.specs.Library.{Library, runs, with_hub}
use Rattle.wl_quiescence.proofs.rest.Invariant.{View, Nothing, item_of, after_item, seen, outputs_to, arrived_of, view, hub_view, is_answer_in, Fresh, Serves, Keeping, IsResting}
use Rattle.wl_quiescence.proofs.hub.Moves.{grown, spared-serves, fresh-grown, view-grown}
use Rattle.wl_quiescence.proofs.hub.Sender.{handled-serves, kept-same, says-cases, says-nothing}
use Rattle.wl_quiescence.proofs.hub.Steps.{spares-same}

-- An honest tab's frame that tells the broker nothing.
pub plain-serves : (v : View) (fs more : List Frame) (t : ℕ) (b : BrokerState) (f : Frame) → v.up ≡ f ∷ fs → item_of b.generation f ≡ Nothing → ((x : Frame) (g : ℕ) → In x more → is_answer_in g x ≡ false)
    → Serves v t b → Serves (grown v fs more v.early) t b
plain-serves v fs more t b f u none plain x =
    handled-serves v fs more v.early t b b f u (record { generation = refl; noted = λ i. i; joined = λ j. j }) (λ y i z. apart z (plain y b.generation i))
    (λ _. inl (ap (λ z. after_item v.place (is_report_due v.client.locks) (length v.client.locks.issued) z (seen b t)) (sym none)))
    (λ j. kept-same v fs more v.early t b (λ i. i) (λ y i. apart (eq-eqb y.generation y.generation refl) (plain (frame.Snapshot y) y.generation i))
    (λ k lt e i. ⊎_elim (λ s. absurd (says-nothing k (s ∙ none))) (λ s. inr (inr (inr (inr s)))) (says-cases v fs more v.early b.generation k f u i))
    (x.kept j)) x

-- The hub drops the frame or sends it to other tabs: the broker stays.
pub record IsPlain (l : Library) (h : HubState) (fs : List Frame) (sent : List (ℕ × Frame)) : Type 0 where
  pub supervised : h.supervised ≡ l.hub.supervised
  pub outputs : h.outputs ≡ l.hub.outputs ++ sent
  pub plain : (t g : ℕ) (f : Frame) → In f (outputs_to t sent) → is_answer_in g f ≡ false
  pub sender : h.sender ≡ l.hub.sender
  pub arrived : h.arrived ≡ fs
  pub untold : h.untold ≡ l.hub.untold
  pub early : h.early ≡ l.hub.early
  pub greetings : h.greetings ≡ l.hub.greetings

-- While no broker is up, only the fresh part is said.
pub plain-rests : (l : Library) (h : HubState) (f : Frame) (fs : List Frame) (sent : List (ℕ × Frame)) → l.hub.arrived ≡ f ∷ fs → IsPlain l h fs sent
    → ((b : BrokerState) → l.hub.supervised.broker ≡ Some b → runs l l.hub.sender ≡ true → item_of b.generation f ≡ Nothing) → IsResting l → IsResting (with_hub h l)
plain-rests l h f fs sent arrived p item x =
    let m = with_hub h l in
    let k = l.hub.supervised.kernel in
    let kernel = ap (λ z. z.kernel) p.supervised in
    let runs-before : (t : ℕ) → runs m t ≡ true → runs l t ≡ true = λ t y. sym (ap (λ z. runs (with_hub (record l.hub { supervised = z }) l) t) p.supervised) ∙ y in
    let s = l.hub.sender in
    let now : (t : ℕ) → arrived_of h t ≡ cond (s == t) fs [] = λ t. ap₂ (λ a z. cond (a == t) z []) p.sender p.arrived in
    let look : (t : ℕ) → view m t ≡ grown (view l t) (cond (s == t) fs [] ++ (l.lines t).up) (outputs_to t sent) l.hub.early = λ t.
    view-grown l h sent t kernel p.outputs ∙ ap₂ (λ a e. grown (view l t) (a ++ (l.lines t).up) (outputs_to t sent) e) (now t) p.early in
    let hub : hub_view h ≡ hub_view l.hub =
    ap (λ z. record { supervised = z; untold = h.untold; early = h.early; greetings = h.greetings }) p.supervised
    ∙ (ap (λ z. record { supervised = l.hub.supervised; untold = z; early = h.early; greetings = h.greetings }) p.untold
    ∙ ap₂ (λ e g. record { supervised = l.hub.supervised; untold = l.hub.untold; early = e; greetings = g }) p.early p.greetings) in
    let serves : (b : BrokerState) → l.hub.supervised.broker ≡ Some b → (t : ℕ) → runs l t ≡ true → Serves (view l t) t b → Serves (grown (view l t) (cond (s == t) fs [] ++ (l.lines t).up) (outputs_to t sent) l.hub.early) t b = λ b has t r v.
    ⊎_elim
    (λ e.
    let here : (s == t) ≡ true = eq-eqb s t (sym e) in
    let first : (view l t).up ≡ f ∷ (fs ++ (l.lines t).up) = ap (λ z. cond z l.hub.arrived [] ++ (l.lines t).up) here ∙ ap (λ z. z ++ (l.lines t).up) arrived in
    subst (λ z. Serves (grown (view l t) (z ++ (l.lines t).up) (outputs_to t sent) l.hub.early) t b) (sym (ap (λ z. cond z fs []) here))
    (plain-serves (view l t) (fs ++ (l.lines t).up) (outputs_to t sent) t b f first (item b has (subst (λ z. runs l z ≡ true) e r)) (λ y g i. p.plain t g y i) v))
    (λ d.
    let there : (s == t) ≡ false = ne_eqb s t (λ e. d (sym e)) in
    subst (λ z. Serves (grown (view l t) (z ++ (l.lines t).up) (outputs_to t sent) l.hub.early) t b) (ap (λ z. cond z l.hub.arrived []) there ∙ sym (ap (λ z. cond z fs []) there))
    (spared-serves (view l t) (outputs_to t sent) l.hub.early t b b (λ i. i) (spares-same (view l t) (outputs_to t sent) t b (λ y g i. p.plain t g y i)) v))
    (cases_eq t s) in
    record {
      fresh = λ t y.
          subst (λ z. Fresh (view m t) (limit_in z.kernel.generation z.broker)) (sym p.supervised)
          (subst (λ z. Fresh z (limit_in k.generation l.hub.supervised.broker)) (sym (look t))
          (fresh-grown (view l t) (cond (s == t) fs [] ++ (l.lines t).up) (outputs_to t sent) l.hub.early (limit_in k.generation l.hub.supervised.broker) (λ z g i a. apart a (p.plain t g z i)) (x.fresh t (runs-before t y))));
      keeping = λ b has. subst (λ z. Keeping z b) (sym hub) (x.keeping b (sym (ap (λ z. z.broker) p.supervised) ∙ has));
      serving = λ b t has y.
          let before = sym (ap (λ z. z.broker) p.supervised) ∙ has in
          subst (λ z. Serves z t b) (sym (look t)) (serves b before t (runs-before t y) (x.serving b t before (runs-before t y)));
    }

-- A post.
pub posted-plain : (t s g : ℕ) (p : Post) (ns : List ℕ) (f : Frame) → In f (outputs_to t (map (λ n. (n, heard_of s p)) ns)) → is_answer_in g f ≡ false
posted-plain t s g p ns f i =
    let a = In-map_cases (λ (o : ℕ × Frame). o.1) _ i in
    let o = In-map_cases (λ n. (n, heard_of s p)) ns (In-filter_cases (λ (o : ℕ × Frame). o.0 == t) (map (λ n. (n, heard_of s p)) ns) a.1).0 in
    ap (is_answer_in g) (a.2 ∙ ap (λ (z : ℕ × Frame). z.1) o.2)
