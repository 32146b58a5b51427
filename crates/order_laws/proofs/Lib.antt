pub mod AnyTakings
pub mod RouteOrders
