-- Reasons for which a call of the client fails.
use Rattle.wl_agent.specs.declared.fault.AgentFault.{AgentFault}
use Rattle.wl_agent.specs.declared.fault.AgentFault.TheVariants as agent
use Rattle.wl_broadcast.specs.declared.fault.ChannelFault.{ChannelFault}
use Rattle.wl_broadcast.specs.declared.fault.ChannelFault.TheVariants as channel
use Rattle.wl_tab.specs.declared.channels.ChannelRefusal.{ChannelRefusal}
use Rattle.wl_tab.specs.declared.channels.ChannelRefusal.TheVariants.{Fault}
use Rattle.wl_client.specs.declared.fault.CallFault.{CallFault}
use Rattle.wl_client.specs.declared.fault.CallFault.TheVariants.{Agent, Memory}
use Rattle.wl_client.specs.declared.fault.ChannelCallFault.{ChannelCallFault}
use Rattle.wl_client.specs.declared.fault.ChannelCallFault.TheVariants as call

abbrev pub of_agent : AgentFault → CallFault
of_agent agent.Memory = Memory
of_agent f = Agent f

abbrev pub of_opening : ChannelFault → ChannelCallFault
of_opening channel.Memory = call.Memory
of_opening f = call.Channel (Fault f)

abbrev pub of_channel : ChannelRefusal → ChannelCallFault
of_channel (Fault f) = of_opening f
of_channel r = call.Channel r
