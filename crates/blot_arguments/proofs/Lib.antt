mod PeerLemmas
mod RefusalLemmas
