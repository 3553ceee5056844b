mod NamingLemmas
mod StaffLemmas
