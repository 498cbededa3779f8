mod NewRows
mod Renewals
mod Staleness
