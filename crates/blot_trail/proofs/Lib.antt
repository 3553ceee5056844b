mod AuditLemmas
mod Rows
mod TurnLemmas
