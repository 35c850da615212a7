use Rattle.std.proofs.Common.{◌≡◌, ℕ, List, true, ap, ◌∙◌, subst, arith}
use Rattle.std.proofs.lemmas.Grind.{common_steps}
use Rattle.std.proofs.lemmas.Result.{IfOk-weaker}
use Rattle.wl_broadcast.specs.Channels.{posted}
use Rattle.wl_kernel.specs.Kernel.{KernelState}
use Rattle.wl_world_messages.specs.declared.effect.Refusal.{Refusal}
use Rattle.wl_world_messages.specs.Refused.{refused}
use Rattle.wl_world_model.specs.World.{lives}
use Rattle.wl_world_model.specs.Replies.{posting}
use Rattle.wl_world.specs.Merging.{posted_said}
use Rattle.wl_world.specs.Components.{crossed}
use Rattle.wl_world.proofs.calls.SupervisorParts.{always}
use Rattle.wl_world.proofs.calls.ChannelRows.{row_of, IsPostOf, posted-world, posted-sends, posted-said, unposted-world, unposted-sends, unposted-said}
use Rattle.wl_world.proofs.calls.LivingRows.{channels-there, channels-after}
use Rattle.wl_world.proofs.components.Components.post.Goals as goal
use Rattle.wl_world.proofs.components.Components.post.Goals.{in-Ok, in-Err+in_ok-post_refusal-in-Err}

pub post_at-requires : goal.post_at-requires
post_at-requires c =
    let live : lives c.args.self.now c.args.tab ≡ true = grind (arith, common_steps) in
    record { there = channels-there c.self.inside.tabs.entries c.self.inside.channels.entries c.self.inside.supervisor c.self.inside.bag c.self.inside.corrupt.items c.args.self.now c.self.view_is c.args.tab live c.self.invariant }

pub invariant_of-self-2 : goal.invariant_of-self-2
invariant_of-self-2 c =
    let rows = c.self.inside.channels.entries in
    channels-after c.post_at.result c.self.inside.supervisor.kernel c.args.tab (posted c.args.channel c.as_slice.result.now (row_of c.args.tab rows)) c.self.inside.tabs.entries rows _ c.post_at.ensures.ok c.post_at.ensures.err (c.self.invariant.own c.args.tab) c.self.invariant

pub returns-clause-world : goal.returns-clause-world
returns-clause-world c =
    let live : lives c.args.self.now c.args.tab ≡ true = grind (arith, common_steps) in
    let p = c.self.inside in
    rw (← c.as_slice.ensures) (elim c.match-post_at.branch [
      | in-Ok w ↦
          always c.match-post_at.result (posted-world p.tabs.entries p.channels.entries p.supervisor p.bag p.corrupt.items c.args.self.now c.self.view_is c.args.tab c.args.channel c.as_slice.result.now live c.self.invariant.own c.post_at.new.rows.entries w.in-Ok.ensures.ok w.in-Ok.ensures.refused.0)
      | in-Err+in_ok-post_refusal-in-Err w ↦
          let refusal = w.in-Err.ensures.refused.1 w.in_ok-post_refusal-in-Err.ensures.fault in
          always c.match-post_at.result (unposted-world p.tabs.entries p.channels.entries p.supervisor p.bag p.corrupt.items c.args.self.now c.self.view_is c.args.tab c.args.channel c.as_slice.result.now live c.self.invariant.own c.post_at.new.rows.entries w.in-Err.ensures.err w.in-Err.refusal refusal)
    ])

pub returns-clause-said : goal.returns-clause-said
returns-clause-said c =
    let live : lives c.args.self.now c.args.tab ≡ true = grind (arith, common_steps) in
    let p = c.self.inside in
    elim c.match-post_at.branch [
      | in-Ok w ↦
          let posted = w.in-Ok.posted in
          let is : IsPostOf c.args.channel c.as_slice.result.now (row_of c.args.tab p.channels.entries) posted = record { frame = w.in-Ok.ensures.posted.0; took = w.in-Ok.ensures.posted.1; full = w.in-Ok.ensures.posted.2 } in
          let said : posted_said c.args.tab c.args.bytes.now posted ≡ posting c.args.self.now c.args.tab c.args.channel c.args.bytes.now =
          subst (λ (bytes : List ℕ). posted_said c.args.tab bytes posted ≡ posting c.args.self.now c.args.tab c.args.channel bytes) c.as_slice.ensures
          (posted-said p.tabs.entries p.channels.entries p.supervisor p.bag p.corrupt.items c.args.self.now c.self.view_is c.args.tab c.args.channel c.as_slice.result.now live c.self.invariant.own w.in-Ok.ensures.refused.0 posted is) in
          rw w.result-is (IfOk-weaker w.posting.result _ _ (λ d e. e ∙ said) w.posting.ensures.said)
      | in-Err+in_ok-post_refusal-in-Err w ↦
          let refusal = w.in-Err.ensures.refused.1 w.in_ok-post_refusal-in-Err.ensures.fault in
          let said : refused w.in_ok-post_refusal-in-Err.field-0 ≡ posting c.args.self.now c.args.tab c.args.channel c.args.bytes.now =
          ap (λ (r : Refusal). refused r) w.in_ok-post_refusal-in-Err.ensures.refusal
          ∙ rw (← c.as_slice.ensures) (unposted-said p.tabs.entries p.channels.entries p.supervisor p.bag p.corrupt.items c.args.self.now c.self.view_is c.args.tab c.args.channel c.as_slice.result.now live c.self.invariant.own w.in-Err.refusal refusal) in
          rw w.result-is (w.refused-in-Err.ensures.said ∙ said)
    ]

pub returns-clause-sends : goal.returns-clause-sends
returns-clause-sends c =
    let live : lives c.args.self.now c.args.tab ≡ true = grind (arith, common_steps) in
    let p = c.self.inside in
    rw (← c.as_slice.ensures) (elim c.match-post_at.branch [
      | in-Ok w ↦
          let frame = w.in-Ok.posted.frame in
          let sends = posted-sends p.tabs.entries p.channels.entries p.supervisor p.bag p.corrupt.items c.args.self.now c.self.view_is c.args.tab c.args.channel c.as_slice.result.now live c.self.invariant.own w.in-Ok.ensures.refused.0 frame w.in-Ok.ensures.posted.0 in
          rw w.result-is (IfOk-weaker w.posting.result _ _ (λ d e. e ∙ ap (λ (k : KernelState). crossed k c.args.tab frame) w.tabs.ensures ∙ sends) w.posting.ensures.sends)
      | in-Err+in_ok-post_refusal-in-Err w ↦
          let refusal = w.in-Err.ensures.refused.1 w.in_ok-post_refusal-in-Err.ensures.fault in
          rw w.result-is (w.refused-in-Err.ensures.sends ∙ unposted-sends p.tabs.entries p.channels.entries p.supervisor p.bag p.corrupt.items c.args.self.now c.self.view_is c.args.tab c.args.channel c.as_slice.result.now live c.self.invariant.own w.in-Err.refusal refusal)
    ])
