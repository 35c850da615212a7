-- A post, which is no item, keeps the invariant.
use Rattle.std.proofs.Common.{◌≡◌, inl, inr, ⊎_elim, ℕ, List, [], ◌∷◌, ◌++◌, length, map, is_some, sym, ap, ◌∙◌, subst, append_assoc}
use Rattle.std.proofs.lemmas.List.{map-append}
use Rattle.wl_draft.specs.Membership.{In}
use Rattle.wl_draft.proofs.Membership.{either, In-append_left}
use Rattle.wl_grammar.specs.declared.frame.Frame.{Frame}
use Rattle.wl_broker.specs.Broker.{BrokerState}
use Rattle.wl_agent.specs.Tab.{is_report_due}
use Rattle.wl_client.specs.declared.client.Unsent.TheVariants as unsent
use Rattle.wl_client.specs.Client.{ClientState, channel_refusal, after_post}
use Rattle.wl_broadcast.specs.Channels.{post_frame, name_at}
use Rattle.wl_tab.specs.TabChannels.{posting_refusal}
use Rattle.wl_library_model.specs.Library.{Library, Posts, posts, client_of, runs, with_line, step}
use Rattle.wl_quiescence.proofs.rest.Invariant.{View, Says, Nothing, item_of, item_of_unsent, items_of, after_items, seen, Arrives, Serves, IsResting, view}
use Rattle.wl_quiescence.proofs.rest.Items.{items-append}
use Rattle.wl_quiescence.proofs.rest.Steps.{line-rests}

abbrev posting : View → Frame → View
posting v f = record v { client = record v.client { unsent = v.client.unsent ++ unsent.Post f ∷ [] } }

-- The post comes last, and is no item.
items-post : (g : ℕ) (v : View) (f : Frame) → items_of g (posting v f) ≡ items_of g v ++ Nothing ∷ []
items-post g v f =
    let fs = map (item_of g) (v.up ++ v.client.report) in let ds = map Says v.client.due in let us = map item_of_unsent v.client.unsent in
    ap (λ z. fs ++ (ds ++ z)) (map-append item_of_unsent v.client.unsent (unsent.Post f ∷ []))
    ∙ (ap (λ z. fs ++ z) (sym (append_assoc ds us (Nothing ∷ []))) ∙ sym (append_assoc fs (ds ++ us) (Nothing ∷ [])))

post-arrives : (v : View) (t : ℕ) (b : BrokerState) (f : Frame) → Arrives v t b → Arrives (posting v f) t b
post-arrives v t b f a =
    let a' = v.client.locks in let p = v.place in let due = is_report_due a' in let n = length a'.issued in
    ap (λ z. after_items p due n z (seen b t)) (items-post b.generation v f) ∙ (items-append p due n (items_of b.generation v) (Nothing ∷ []) (seen b t) ∙ a)

pub post-serves : (v : View) (t : ℕ) (b : BrokerState) (f : Frame) → Serves v t b → Serves (posting v f) t b
post-serves v t b f s = record {
  welcomed = s.welcomed;
  enters = s.enters;
  answers = s.answers;
  reaches = λ e. ⊎_elim inl (λ o. ⊎_elim (λ n. inr (inl n)) (λ a. inr (inr (post-arrives v t b f a))) o) (s.reaches e);
  reported = s.reported;
  kept = λ j. let k = s.kept j in record {
    acknowledged = k.acknowledged;
    issued = k.issued;
    queried = k.queried;
    awaited = λ n lt w. ⊎_elim inl (λ o. ⊎_elim (λ x. inr (inl x)) (λ o. ⊎_elim (λ x. inr (inr (inl x)))
        (λ o. ⊎_elim
        (λ x. inr (inr (inr (inl (⊎_elim inl (λ y. ⊎_elim (λ z. inr (inl z)) (λ i. inr (inr (In-append_left (unsent.Post f ∷ []) i))) y) x)))))
        (λ i. inr (inr (inr (inr (subst (In (Says n)) (sym (items-post b.generation v f)) (In-append_left (Nothing ∷ []) i))))))
        o) o) o) (k.awaited n lt w);
    stands = k.stands;
    own = k.own;
    room = k.room;
  };
}

pub post-rests : (l : Library) (t k : ℕ) (bytes : List ℕ) → IsResting l → IsResting (step (Posts t k bytes) l)
unfolding step
post-rests l t k bytes x =
    let c = client_of l t in
    let f = post_frame c.channels.posts (name_at c.channels.objects k) bytes in
    either IsResting (runs l t) (with_line t (record (l.lines t) { client = posts k bytes c }) l) l
    (λ _. either (λ (z : ClientState). IsResting (with_line t (record (l.lines t) { client = z }) l)) (is_some (channel_refusal (posting_refusal k bytes c.channels) c)) c (after_post k bytes c)
    (λ _. line-rests l t (l.lines t) (λ r. record { fresh = x.fresh t r; serves = λ b up. x.serving b t up r }) x)
    (λ _. line-rests l t (record (l.lines t) { client = after_post k bytes c }) (λ r. record {
      fresh = let h = x.fresh t r in record { welcome = h.welcome; past = h.past; entered = h.entered };
      serves = λ b up. post-serves (view l t) t b f (x.serving b t up r);
    }) x))
    (λ _. x)
