use Rattle.wl_broadcast.proofs.Gained.{step_stays, takes_posts, closed_takes_nothing}
use Rattle.wl_broadcast.proofs.Rising.{takes_rising}
use Rattle.wl_broadcast.proofs.OldPosts.{old_only_after}
use Rattle.wl_broadcast.proofs.Received.{reads_in_order, delivers_new, delivers_own}
use Rattle.wl_broadcast.proofs.Bounds.{never_too_many_open, never_too_many_wait, never_too_many_posts}
use Rattle.wl_broadcast.proofs.laws.law_channels.Goals as goal

pub returns-clause-rising : goal.returns-clause-rising
returns-clause-rising c = takes_rising

pub returns-clause-posts : goal.returns-clause-posts
returns-clause-posts c = takes_posts

pub returns-clause-names : goal.returns-clause-names
returns-clause-names c = λ s k call below. (step_stays s k call below).name

pub returns-clause-closed : goal.returns-clause-closed
returns-clause-closed c = closed_takes_nothing

pub returns-clause-reads : goal.returns-clause-reads
returns-clause-reads c = reads_in_order

pub returns-clause-old : goal.returns-clause-old
returns-clause-old c = old_only_after

pub returns-clause-delivers : goal.returns-clause-delivers
returns-clause-delivers c = delivers_new

pub returns-clause-delivers_own : goal.returns-clause-delivers_own
returns-clause-delivers_own c = delivers_own

pub returns-clause-open_limit : goal.returns-clause-open_limit
returns-clause-open_limit c = never_too_many_open

pub returns-clause-inbox_limit : goal.returns-clause-inbox_limit
returns-clause-inbox_limit c = never_too_many_wait

pub returns-clause-post_limit : goal.returns-clause-post_limit
returns-clause-post_limit c = never_too_many_posts
